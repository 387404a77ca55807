use Rattle.wire.proofs.Laws.{passed_on}
use mathlib.Core.Path.{sym, ap, ◌∙◌}
use borrow.Author.Tests.{le-leb, lt-leb}
use Rattle.frames.specs.Frames.{at_most, count_judged}
use Rattle.frames.proofs.Laws.{count_missing}
use borrow.Author.Rules.{rules}
use Rattle.list_frames.proofs.list_head_at_most.Goals as goal
use Rattle.wire.specs.Answers.{as_step}

pub returns-then-head-most : goal.returns-then-head-most
unfolding count_judged
returns-then-head-most c = rw (← c.list_head.ensures, c.in_ok-head.was, le-leb _ _ c.if-head-most.true)

pub returns-else-head-most : goal.returns-else-head-most
unfolding count_judged
returns-else-head-most c = rw (← c.list_head.ensures, c.in_ok-head.was, lt-leb _ _ c.if-head-most.false, c.fault_at.ensures)

pub returns-in_err-head : goal.returns-in_err-head
returns-in_err-head c = passed_on c.from_residual.result _ c.from_residual.ensures.1 ∙ (count_missing (at_most _) _ (sym c.list_head.ensures ∙ ap as_step c.in_err-head.was))
