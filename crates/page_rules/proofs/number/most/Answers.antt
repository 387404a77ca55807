-- `page_rules::number::most` meets its contract. Assumes nothing.
use lib.Pow.{pow_pos}
use Rattle.page_rules.proofs.Laid.{one_up, largest_below, largest_above}
use mathlib.Core.Path.{ap, ◌∙◌}
use Prim.Native.Nat.{ℕ, ◌-◌}
use native.Mathlib.Omega.{arith}
use Rattle.page_rules.proofs.number.most.Goals as goal

pub overflow_sub-result : goal.overflow_sub-result
overflow_sub-result c = omega (arith, one_up c.args.width c.if-width-lt64.true, pow_pos c.args.width)

pub returns-then-width-lt64 : goal.returns-then-width-lt64
returns-then-width-lt64 c = let w = c.args.width in
    ap (λ (x : ℕ). x - 1) (one_up w c.if-width-lt64.true) ∙ largest_below w c.if-width-lt64.true

pub returns-else-width-lt64 : goal.returns-else-width-lt64
returns-else-width-lt64 c = largest_above c.args.width c.if-width-lt64.false
