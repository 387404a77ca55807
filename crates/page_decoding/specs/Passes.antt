-- The planes of a split page, placed one after the other.
use Rattle.std.specs.Prelude.{◌≡◌, ℕ, zero, suc, ◌*◌, ◌^◌, ◌≤◌, List, length, take, drop}
use Rattle.numbers.specs.Rows.{over}
use Rattle.planes.specs.Plane.{placed, cleared}
use Rattle.coding.specs.Layout.{unplanes}
use Rattle.coding.specs.Inverses.{Below}

-- words after the planes below p, of n bytes each, were placed
unfoldable pub placed_below : ℕ → ℕ → List ℕ → List ℕ → List ℕ
placed_below zero n page ws = ws
placed_below (suc p) n page ws = placed 8 p (take n (drop (p * n) page)) (placed_below p n page ws)

-- all k planes of a page, each placed once, over words that were cleared before, are its numbers
unfoldable pub PlanesInTurn : Type 0
PlanesInTurn =
    (k n : ℕ) (page ws : List ℕ) → k ≤ 8 → k * n ≤ length page → n ≤ length ws → Below 256 page → Below (256 ^ 8) ws
    → placed_below k n page (over (cleared k (take n ws)) ws) ≡ over (unplanes k n page) ws
