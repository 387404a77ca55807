-- By which numbers pages in turn are refused: by those that a page alone is refused by.
-- Assumes nothing.
use Prim.Native.Nat.{ℕ, suc, ◌+◌}
use mathlib.Core.Path.{◌≡◌, refl, sym, ap, ◌∙◌, subst}
use mathlib.Core.Bool.{Bool, true, false}
use mathlib.Core.List.{List, [], ◌∷◌}
use mathlib.Core.Logic.{◌⊎◌, inl, inr}
use native.Mathlib.Nat.{add-zero}
use native.Mathlib.Omega.{arith}
use lib.ListN.{length}
use Rattle.numbers.specs.Lists.{Each}
use Rattle.numbers.proofs.Choice.{clash}
use Rattle.outcome.specs.Outcome.{Outcome, is_accepted}
use Rattle.page_rules.specs.Page.{accept, RefusedBy}
use Rattle.page_rules.proofs.Laid.{length_left}
use Rattle.column_rules.specs.declared.ColumnPage.{ColumnPage}
use Rattle.column_rules.specs.Column.{refuse_at, page_outcome, page_decoded, in_turn}
use Rattle.column_rules.specs.Statements.{RefusedAt, AcceptsOr, page_elements, elements_of}
use Rattle.column_rules.proofs.TurnLaws.{page_accepted, turn_accepted, turn_refused}

-- a page that is refused by one of some numbers ends the pages with it
refused_at : (ks : List ℕ) (o : Outcome) (i : ℕ) (words : List ℕ) → RefusedBy ks o → RefusedAt ks i (record { outcome = refuse_at o.number i; words = words })
refused_at [] o i words x' = elim x' [ ]
refused_at (k ∷ ks) o i words (inl e) = inl (ap (λ (x : Outcome). refuse_at x.number i) e)
refused_at (k ∷ ks) o i words (inr r) = inr (refused_at ks o i words r)

module _ (ks : List ℕ) (t : ℕ) (file : List ℕ) where
  -- a page, decoded to so many words from `start` on, is accepted or refused by one of the numbers
  abbrev pub PageOr : ℕ → ColumnPage → ℕ → Type 0
  PageOr words p start = (page_outcome t file p words start ≡ accept p.elements) ⊎ RefusedBy ks (page_outcome t file p words start)

  -- so is each of some pages, each from where the one before it ended
  abbrev pub PagesOr : ℕ → List ColumnPage → ℕ → Type 0
  PagesOr words [] start = Unit {0}
  PagesOr words (p ∷ ps) start = PageOr words p start × PagesOr words ps (start + p.elements)

  -- by a fact on each page alone, which may ask that something holds of the place where the page ends
  pub pages_or : (words : ℕ) (Room : ℕ → Type 0) → ((a b : ℕ) → Room (a + b) → Room a)
      → (ps : List ColumnPage) → Each (λ p. (start : ℕ) → Room (start + p.elements) → PageOr words p start) ps
      → (start : ℕ) → Room (start + elements_of ps) → PagesOr words ps start
  unfolding elements_of
  pages_or words Room less [] each start room = tt
  pages_or words Room less (p ∷ ps) each start room =
      let further : start + (p.elements + elements_of ps) ≡ start + p.elements + elements_of ps = omega arith in
      let later : Room (start + p.elements + elements_of ps) = subst Room further room in
      (each.0 start (less (start + p.elements) (elements_of ps) later), pages_or words Room less ps each.1 (start + p.elements) later)

  pub turned : (ps : List ColumnPage) (i start : ℕ) (old : List ℕ) → PagesOr (length old) ps start → AcceptsOr ks (i + length ps) (in_turn t file ps i start old)
  unfolding in_turn
  turned [] i start old each = inl (rw (add-zero i) refl)
  turned (p ∷ ps) i start old each =
      by (turned ps (suc i) (start + p.elements) (page_decoded t file p old start)) (is_accepted (page_outcome t file p (length old) start)) refl
    where
      refused : is_accepted (page_outcome t file p (length old) start) ≡ false → PageOr (length old) p start → RefusedBy ks (page_outcome t file p (length old) start)
      refused e (inl a) = clash (ap is_accepted a) e
      refused e (inr r) = r

      by : (PagesOr (length (page_decoded t file p old start)) ps (start + p.elements)
          → AcceptsOr ks (suc i + length ps) (in_turn t file ps (suc i) (start + p.elements) (page_decoded t file p old start)))
          → (b : Bool) → is_accepted (page_outcome t file p (length old) start) ≡ b → AcceptsOr ks (i + suc (length ps)) (in_turn t file (p ∷ ps) i start old)
      by rest true e =
          let k = page_accepted t file p old start e in
          let long : length (page_decoded t file p old start) ≡ length old =
          ap length k.leaves ∙ length_left old (page_elements t file p) start p.elements k.count k.room in
          let next : i + suc (length ps) ≡ suc i + length ps = omega arith in
          rw (turn_accepted t file p old start ps i e, next) (rest (subst (λ (m : ℕ). PagesOr m ps (start + p.elements)) (sym long) each.1))
      by rest false e =
          rw (turn_refused t file p old start ps i e)
          (inr (omega arith, refused_at ks (page_outcome t file p (length old) start) i old (refused e each.0)))
