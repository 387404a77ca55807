-- `page_rules::answer::outside_answer` meets its contract. Assumes nothing.
use mathlib.Core.Path.{◌≡◌, sym, ◌∙◌}
use mathlib.Core.Bool.{true}
use Prim.Native.Nat.{ℕ}
use Rattle.column_type.specs.Types.{width_of}
use Rattle.page_rules.proofs.Widths.{read_width_lem}
use Rattle.page_rules.specs.Page.{readable}
use Rattle.page_rules.proofs.Decoding.{asked_23, asked_10, asked_passed}
use Rattle.page_rules.proofs.answer.outside_answer.Goals as goal

pub returns-then-not-is_readable : goal.returns-then-not-is_readable
returns-then-not-is_readable c t e = let a = c.args in
    asked_23 t a.n _ (sym (read_width_lem t a.width e) ∙ sym c.is_readable.ensures ∙ c.if-not-is_readable.true)

pub returns-then-n-gt-MOST_ELEMENTS : goal.returns-then-n-gt-MOST_ELEMENTS
returns-then-n-gt-MOST_ELEMENTS c t e = let is_readable_lem : (t : ℕ) → c.args.width ≡ width_of t → readable t ≡ true = λ t e. sym (read_width_lem t c.args.width e) ∙ sym c.is_readable.ensures ∙ c.if-not-is_readable.false in
    asked_10 t c.args.n _ (is_readable_lem t e) c.if-n-gt-MOST_ELEMENTS.true

pub returns : goal.returns
returns c t e = let is_readable_lem : (t : ℕ) → c.args.width ≡ width_of t → readable t ≡ true = λ t e. sym (read_width_lem t c.args.width e) ∙ sym c.is_readable.ensures ∙ c.if-not-is_readable.false in
    asked_passed t c.args.n _ (is_readable_lem t e) c.if-n-gt-MOST_ELEMENTS.false
