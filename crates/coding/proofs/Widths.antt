-- Whole bytes, case by case.
-- Assumes nothing.
use mathlib.Core.Path.{◌≡◌}
use mathlib.Core.Logic.{⊎_elim}
use Prim.Native.Nat.{ℕ}
use Rattle.coding.specs.Layout.{WholeBytes}

-- what is left when the other widths are ruled out
pub eight_left : (k : ℕ) → WholeBytes k → (k ≡ 1 → ⊥) → (k ≡ 2 → ⊥) → (k ≡ 4 → ⊥) → k ≡ 8
eight_left k w a b c = ⊎_elim (λ e. absurd (a e)) (⊎_elim (λ e. absurd (b e)) (⊎_elim (λ e. absurd (c e)) (λ e. e))) w
