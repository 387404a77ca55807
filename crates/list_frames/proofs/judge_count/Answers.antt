use borrow.Author.Tests.{eq-eqb, ne_eqb}
use Rattle.frames.specs.Frames.{count_judged}
use borrow.Author.Rules.{rules}
use Rattle.list_frames.proofs.judge_count.Goals as goal

pub returns-then-verdict-eq0 : goal.returns-then-verdict-eq0
unfolding count_judged
returns-then-verdict-eq0 c = simp (eq-eqb _ _ c.if-verdict-eq0.true)

pub returns : goal.returns
unfolding count_judged
returns c = simp (ne_eqb _ _ c.if-verdict-eq0.false, c.fault_at.ensures)
