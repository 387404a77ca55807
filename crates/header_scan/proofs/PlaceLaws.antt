-- The place of a record, found by going from size to size.
use Prim.Native.Nat.{ℕ, suc, ◌+◌, ◌-◌, ◌≤◌, ◌<◌}
use mathlib.Core.Path.{◌≡◌, refl, sym, ap, ◌∙◌}
use mathlib.Core.Bool.{Bool, true, false}
use mathlib.Core.List.{List}
use native.Mathlib.Omega.{arith}
use borrow.Author.Tests.{leb-true}
use lib.ListN.{length}
use lib.Dec.{leb}
use Rattle.numbers.specs.Choice.{pick}
use Rattle.numbers.specs.Numbers.{little, little_in}
use Rattle.header.specs.Tables.{record_at}

-- a size is read in the bytes or is 0, so a place stays near them
pub place_stays : (s : List ℕ) (at v : ℕ) → v ≡ little_in 4 s at → v < 4294967296 → at ≤ length s + 4294967296 → at + v ≤ length s + 4294967296
unfolding little_in
place_stays s at v e small near = by (leb (at + 4) (length s)) refl e
  where
    by : (b : Bool) → leb (at + 4) (length s) ≡ b → v ≡ pick b (little 4 s at) 0 → at + v ≤ length s + 4294967296
    by true t w = let l = leb-true (at + 4) (length s) t in omega arith
    by false t w = omega arith

pub record_next : (s : List ℕ) (at left : ℕ) {v : ℕ} → 0 < left → v ≡ little_in 4 s at → record_at s at left ≡ record_at s (at + v) (left - 1)
unfolding record_at
record_next s at left {v} more e =
    let k : left ≡ suc (left - 1) = omega arith in
    ap (record_at s at) k ∙ ap (λ (n : ℕ). record_at s (at + n) (left - 1)) (sym e)
