-- `page_decoding::signed::to_bits` meets its contract, by the sign of its argument. Assumes nothing.
use Rattle.std.proofs.Common.{◌≡◌, ℕ, ◌-◌, ◌^◌, ◌<◌, ◌≤◌, ℤ, nat_abs, sym, ap, ◌∙◌, subst, arith}
use mathlib.Core.Path.{subst⁻¹}
use Rattle.coding.specs.Signed.{to_bits, Reaches}
use Rattle.coding.proofs.Signs.{at_least_zero, below_zero, read_pos, turned}
use Rattle.page_rules.proofs.Laid.{largest_is}
use Rattle.page_rules.proofs.Types.{split_most}
use Rattle.page_decoding.proofs.signed.to_bits.Goals as goal

pub overflow_sub-result-else-v-ge0 : goal.overflow_sub-result-else-v-ge0
unfolding Reaches
overflow_sub-result-else-v-ge0 c = let a = c.args in
    let high = below_zero a.v c.ranges.v c.if-v-ge0.false in
    let reach : high.size < 2 ^ a.width = subst (Reaches a.width) high.is c.requires.1 in
    let top : c.most.result ≡ 2 ^ a.width - 1 = c.most.ensures ∙ largest_is _ (split_most c.requires.0) in
    subst⁻¹ (λ (z : ℤ). nat_abs z ≤ c.most.result) (turned _ c.ranges.v high) (omega arith)

pub returns-then-v-ge0 : goal.returns-then-v-ge0
unfolding to_bits
returns-then-v-ge0 c = let low = at_least_zero c.args.v c.ranges.v c.if-v-ge0.true in
    ap nat_abs (read_pos _ c.ranges.v low) ∙ ap (to_bits c.args.width) (sym low.is)

pub returns-else-v-ge0 : goal.returns-else-v-ge0
unfolding to_bits
returns-else-v-ge0 c = let a = c.args in
    let high = below_zero a.v c.ranges.v c.if-v-ge0.false in
    ap (λ (z : ℤ). c.most.result - nat_abs z) (turned _ c.ranges.v high)
    ∙ ap (λ (m : ℕ). m - high.size) (c.most.ensures ∙ largest_is _ (split_most c.requires.0))
    ∙ ap (to_bits a.width) (sym high.is)
