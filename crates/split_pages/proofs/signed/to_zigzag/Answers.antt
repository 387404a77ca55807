-- `split_pages::signed::to_zigzag` meets its contract, by the sign of its argument. Assumes nothing.
use Rattle.std.proofs.Common.{◌+◌, ◌*◌, ℤ, nat_abs, sym, ap, ◌∙◌}
use Rattle.coding.specs.Signed.{to_zigzag}
use Rattle.coding.proofs.Signs.{at_least_zero, below_zero, read_pos, turned}
use Rattle.split_pages.proofs.signed.to_zigzag.Goals as goal

pub returns-then-v-ge0 : goal.returns-then-v-ge0
unfolding to_zigzag
returns-then-v-ge0 c = let low = at_least_zero c.args.v c.ranges.v c.if-v-ge0.true in
    ap (λ (z : ℤ). 2 * nat_abs z) (read_pos _ c.ranges.v low) ∙ ap to_zigzag (sym low.is)

pub returns-else-v-ge0 : goal.returns-else-v-ge0
unfolding to_zigzag
returns-else-v-ge0 c = let high = below_zero c.args.v c.ranges.v c.if-v-ge0.false in
    ap (λ (z : ℤ). 2 * nat_abs z + 1) (turned _ c.ranges.v high) ∙ ap to_zigzag (sym high.is)
