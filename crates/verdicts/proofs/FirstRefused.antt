-- From the first refusal of rows to that of the items of a list.
use Prim.Native.Nat.{ℕ, zero, suc, ◌≤◌, ◌<◌}
use mathlib.Core.List.{List}
use mathlib.Core.Path.{◌≡◌, refl, ◌∙◌, subst}
use native.Mathlib.Numerals.{add-one}
use native.Mathlib.Omega.{arith}
use Rattle.writing.specs.Piece.{Piece}
use Rattle.writing.proofs.Items.{items, item, Passed, passed_none, passed_more, passed_refused, passed_all}
use Rattle.verdicts.specs.Refusals.{FirstOfRows}

module _ {A : Type 0} (f : List A → A → Piece) (row : List ℕ → ℕ → A) (table : List ℕ) where
  pub refused_first : {Gives : ℕ → ℕ → Type 0} {n number : ℕ} → FirstOfRows Gives n number → ((i r : ℕ) → i < n → Gives i r → r ≡ (item f row table i).number)
      → number ≡ (items f row table n).number
  refused_first {Gives} {n} {number} first is = by number refl
    where
      to : (i : ℕ) → i ≤ first.row → Passed f row table n i
      to zero h = passed_none f row table n
      to (suc i) h =
          let most = first.most in
          subst (λ (k : ℕ). Passed f row table n k) (add-one i)
          (passed_more f row table (to i (omega arith)) (omega arith) (is i 0 (omega arith) (first.before i (omega arith))) refl)

      by : (r : ℕ) → number ≡ r → number ≡ (items f row table n).number
      by zero e = let past = first.passed e in e ∙ passed_all f row table (to first.row (omega arith)) past
      by (suc r) e =
          let most = first.most in
          let bad : number ≡ 0 → ⊥ = λ z. absurd (omega arith) in
          let less : first.row < n = first.refused bad in
          passed_refused f row table (to first.row (omega arith)) less (is first.row number less (first.here less)) bad
