-- `same_footer_counts` meets its contract: each arm is given which answers they are.
use borrow.Author.Tests.{eq-eqb, ne_eqb}
use Rattle.same_tables.proofs.same_footer_counts.Goals as goal

pub returns-then-m-n : goal.returns-then-m-n
returns-then-m-n c = simp (c.in-Ok.is, c.in-Ok-y.is, ne_eqb _ _ c.if-m-n.true)

pub returns-else-m-n : goal.returns-else-m-n
returns-else-m-n c = simp (c.in-Ok.is, c.in-Ok-y.is, eq-eqb _ _ c.if-m-n.false)
