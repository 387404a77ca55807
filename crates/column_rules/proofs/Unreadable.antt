-- Types whose pages are not read: the first page is refused for it, so that no such type is told from another.
-- Assumes nothing.
use mathlib.Core.Path.{◌≡◌, refl, sym, ap, ◌∙◌}
use mathlib.Core.Bool.{false}
use mathlib.Core.List.{List, [], ◌∷◌}
use Prim.Native.Nat.{ℕ}
use Rattle.outcome.specs.Outcome.{Outcome, is_accepted}
use Rattle.page_rules.specs.Page.{readable}
use Rattle.column_rules.specs.declared.ColumnPage.{ColumnPage}
use Rattle.column_rules.specs.Column.{refuse_at, column_pages, in_turn, whole_column}
use Rattle.column_rules.proofs.TurnLaws.{refused_23, turn_refused}

first_refused : (t : ℕ) → readable t ≡ false → (file : List ℕ) (p : ColumnPage) (ps : List ColumnPage) (i start : ℕ) (old : List ℕ)
    → in_turn t file (p ∷ ps) i start old ≡ record { outcome = refuse_at 23 i; words = old }
first_refused t h file p ps i start old =
    let e = sym (refused_23 t file p old start h) in
    turn_refused t file p old start ps i (ap is_accepted e) ∙ ap (λ (o : Outcome). record { outcome = refuse_at o.number i; words = old }) e

pub unreadable_alike : (t u : ℕ) → readable t ≡ false → readable u ≡ false → (file table old : List ℕ) → whole_column t file table old ≡ whole_column u file table old
unfolding whole_column in_turn
unreadable_alike t u ht hu file table old = rw (by (column_pages table))
  where
    by : (ps : List ColumnPage) → in_turn t file ps 0 0 old ≡ in_turn u file ps 0 0 old
    by [] = refl
    by (p ∷ ps) = first_refused t ht file p ps 0 0 old ∙ sym (first_refused u hu file p ps 0 0 old)
