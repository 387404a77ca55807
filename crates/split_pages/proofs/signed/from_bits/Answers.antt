-- `split_pages::signed::from_bits` meets its contract. Assumes nothing.
use Rattle.std.proofs.Common.{◌≡◌, ℕ, ◌-◌, ◌%◌, ◌^◌, ◌<◌, negsuc, sym, ap, ◌∙◌, mod-eq_of_lt, arith}
use Rattle.coding.specs.Layout.{SplitWidth, largest}
use Rattle.coding.proofs.Zigzag.{whole}
use Rattle.coding.proofs.Signs.{read_small, lowered, from_bits_low, from_bits_high}
use Rattle.page_rules.proofs.Laid.{largest_is}
use Rattle.page_rules.proofs.Types.{width_pos, split_most}
use Rattle.split_pages.proofs.signed.from_bits.Goals as goal

-- the largest element of a width
top : (w m : ℕ) → SplitWidth w → m ≡ largest w → m ≡ 2 ^ w - 1
top w m s e = e ∙ largest_is w (split_most s)

pub overflow_sub-result : goal.overflow_sub-result
overflow_sub-result c = omega (arith, top c.args.width _ c.requires.0 c.most-top.ensures)

pub returns-then-x-top : goal.returns-then-x-top
returns-then-x-top c = let a = c.args in
    let h = whole a.width (width_pos c.requires.0) in
    let m = top a.width _ c.requires.0 c.most-top.ensures in
    read_small a.x (omega arith) ∙ sym (from_bits_low a.width a.x (omega arith))

pub returns-else-x-top : goal.returns-else-x-top
returns-else-x-top c = let a = c.args in
    let h = whole a.width (width_pos c.requires.0) in
    let m = top a.width _ c.requires.0 c.most-top.ensures in
    let r : c.most-top.result - a.x < 9223372036854775808 = omega arith in
    lowered ((c.most-top.result - a.x) % 9223372036854775808) (omega arith) ∙ ap negsuc (mod-eq_of_lt r) ∙ ap (λ (y : ℕ). negsuc (y - a.x)) m
    ∙ sym (from_bits_high a.width a.x (omega arith))
