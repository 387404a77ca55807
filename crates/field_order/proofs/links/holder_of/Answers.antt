use native.Mathlib.Omega.{arith}
use Rattle.field_order.proofs.Holding.{holder_top, holder_parent}
use Rattle.field_order.proofs.links.holder_of.Goals as goal

pub overflow_cast-parent : goal.overflow_cast-parent
overflow_cast-parent c = omega (arith, c.type_inv.parents c.args.k)

pub returns-then-parent-k : goal.returns-then-parent-k
returns-then-parent-k c = (holder_top c.args.parents.now c.args.n c.args.k c.requires.0 c.requires.1 c.if-parent-k.true, omega arith)

pub returns : goal.returns
returns c = let i = c.requires.2 c.args.k c.requires.1 in
    (holder_parent c.args.parents.now c.args.n c.args.k c.requires.0 c.requires.1 c.if-parent-k.false, omega arith)
