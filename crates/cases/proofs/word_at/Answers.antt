-- The rest of a division is below how many words there are.
use Rattle.std.proofs.Common.{eq-eqb, ne_eqb}
use Rattle.cases.specs.Words.{word_at}
use Rattle.cases.proofs.word_at.Goals as goal

pub returns-then-count-eq0 : goal.returns-then-count-eq0
unfolding word_at
returns-then-count-eq0 c = simp (eq-eqb _ _ c.if-count-eq0.true)

pub returns : goal.returns
unfolding word_at
returns c = simp (ne_eqb _ _ c.if-count-eq0.false) c.little_8.ensures.is
