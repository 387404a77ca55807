use borrow.Author.Tests.{eq-eqb, ne_eqb}
use Rattle.utf8.proofs.limit.Goals as goal

pub returns-then-first-one : goal.returns-then-first-one
returns-then-first-one c = rw (eq-eqb _ _ c.if-first-one.true)

pub returns-then-first-other : goal.returns-then-first-other
returns-then-first-other c = rw (ne_eqb _ _ c.if-first-one.false, eq-eqb _ _ c.if-first-other.true)

pub returns : goal.returns
returns c = rw (ne_eqb _ _ c.if-first-one.false, ne_eqb _ _ c.if-first-other.false)
