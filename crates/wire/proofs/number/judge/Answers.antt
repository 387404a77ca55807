use borrow.Author.Tests.{eq-eqb, ne_eqb}
use Rattle.wire.specs.Reading.{judged}
use borrow.Author.Rules.{rules}
use Rattle.wire.proofs.number.judge.Goals as goal

pub returns-then-verdict-eq0 : goal.returns-then-verdict-eq0
unfolding judged
returns-then-verdict-eq0 c = simp (eq-eqb _ _ c.if-verdict-eq0.true)

pub returns : goal.returns
unfolding judged
returns c = simp (ne_eqb _ _ c.if-verdict-eq0.false, c.fault_at.ensures)
