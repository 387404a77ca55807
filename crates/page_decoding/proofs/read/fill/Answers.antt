-- `page_decoding::read::fill` meets its contract, of a Bit page, of a split page and of a plain one. Assumes nothing.
use Rattle.std.proofs.Common.{◌≡◌, ℕ, ◌/◌, false, List, sym, ap, ◌∙◌, ne_eqb}
use Rattle.column_type.specs.Types.{split}
use Rattle.numbers.specs.Rows.{over}
use Rattle.coding.specs.Layout.{unplain}
use Rattle.page_rules.proofs.Types.{of_bytes}
use Rattle.page_rules.proofs.Widths.{read_width_lem, bit_type_lem, no_bit}
use Rattle.page_rules.proofs.Laid.{laid_plain, elements_bit, elements_laid}
use Rattle.page_decoding.proofs.read.fill.Goals as goal

pub returns-then-width-eq1 : goal.returns-then-width-eq1
returns-then-width-eq1 c t e m = let a = c.args in
    c.unpack.ensures
    ∙ ap (λ (l : List ℕ). over l a.out.now) (sym (elements_bit t a.n a.page.now (bit_type_lem t a.width e c.if-width-eq1.true)))

pub returns-else-split_in : goal.returns-else-split_in
returns-else-split_in c t e m = let a = c.args in
    let no_bits = ne_eqb t 6 (no_bit t a.width e c.if-width-eq1.false) in
    let plain : split t ≡ false = sym m.is_split ∙ sym c.split_in.ensures ∙ c.if-split_in.false in
    let neither = (of_bytes t (sym (read_width_lem t a.width e) ∙ c.requires.0) no_bits).of_plain plain in
    c.plain_out.ensures
    ∙ ap (λ (l : List ℕ). over l a.out.now)
    (ap (λ (w : ℕ). unplain (w / 8) a.n a.page.now) e ∙ sym (laid_plain t a.n a.page.now no_bits plain)
    ∙ sym (elements_laid t a.n a.page.now neither.0 neither.1))
