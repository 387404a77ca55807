use borrow.Author.Tests.{le-leb, lt-leb}
use Rattle.pairing.specs.Stale.{stale_fault}
use borrow.Author.Rules.{rules}
use Rattle.pairing.proofs.stale_number.Goals as goal

pub returns-then-f-le3 : goal.returns-then-f-le3
unfolding stale_fault
returns-then-f-le3 c = simp (← c.open_envelope.ensures, c.in-Err.is, le-leb _ _ c.if-f-le3.true)

pub returns-in-Ok : goal.returns-in-Ok
unfolding stale_fault
returns-in-Ok c = simp (← c.open_envelope.ensures, c.in-Ok.is)

pub returns-else-f-le3 : goal.returns-else-f-le3
unfolding stale_fault
returns-else-f-le3 c = simp (← c.open_envelope.ensures, c.in-Err.is, lt-leb _ _ c.if-f-le3.false)
