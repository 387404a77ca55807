-- Rows written one after the other, in a loop.
use Prim.Native.Nat.{ℕ, ◌+◌, ◌≤◌, ◌<◌}
use mathlib.Core.List.{List}
use mathlib.Core.Path.{◌≡◌, sym, ap}
use native.Mathlib.Omega.{arith}
use Rattle.stores.specs.Stored.{Stored}
use Rattle.stores.proofs.Storing.{stored_none, stored_then, stored_as_lem}
use Rattle.writing.specs.Piece.{Piece}
use Rattle.writing.proofs.Items.{items, item, items_none, items_more}

module _ {A : Type 0} (f : List A → A → Piece) (row : List ℕ → ℕ → A) (table : List ℕ) where
  -- the items of the first i of n rows stand there
  pub record Laid (n : ℕ) (out₀ : List ℕ) (at i : ℕ) (out : List ℕ) (next : ℕ) : Type 0 where
    pub most : i ≤ n
    pub stored : Stored out₀ at (items f row table i).bytes out next

  pub laid_none : (n : ℕ) (out : List ℕ) (at : ℕ) → Laid n out at 0 out at
  laid_none n out at = record { most = omega arith; stored = stored_as_lem (sym (ap (λ (p : Piece). p.bytes) (items_none f row table))) (stored_none out at) }

  pub laid_more : {n : ℕ} {out₀ : List ℕ} {at i : ℕ} {out : List ℕ} {next : ℕ} {out' : List ℕ} {next' : ℕ} → Laid n out₀ at i out next → i < n
      → Stored out next (item f row table i).bytes out' next' → Laid n out₀ at (i + 1) out' next'
  laid_more {i = i} l less s =
      record { most = omega arith; stored = stored_as_lem (sym (ap (λ (p : Piece). p.bytes) (items_more f row table i))) (stored_then l.stored s) }

  pub laid_all : {n : ℕ} {out₀ : List ℕ} {at i : ℕ} {out : List ℕ} {next : ℕ} → Laid n out₀ at i out next → n ≤ i → Stored out₀ at (items f row table n).bytes out next
  laid_all {n} {i = i} l h = let same : i ≡ n = omega (arith, l.most) in stored_as_lem (ap (λ (k : ℕ). (items f row table k).bytes) same) l.stored
