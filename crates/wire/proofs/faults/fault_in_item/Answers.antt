use borrow.Author.Tests.{eq-eqb, ne_eqb}
use Rattle.wire.specs.Reading.{in_item}
use Rattle.wire.proofs.faults.fault_in_item.Goals as goal

pub returns-then-f-eq0 : goal.returns-then-f-eq0
unfolding in_item
returns-then-f-eq0 c = simp (eq-eqb _ _ c.if-f-eq0.true)

pub returns : goal.returns
unfolding in_item
returns c = simp (ne_eqb _ _ c.if-f-eq0.false)
