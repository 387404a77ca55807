use Rattle.wire.proofs.Laws.{passed_on}
use mathlib.Core.Path.{sym, ap, ◌∙◌}
use Rattle.frames.proofs.Laws.{count_read, count_missing}
use Rattle.footer.specs.Footer.{no_items}
use borrow.Author.Rules.{rules}
use Rattle.footer.proofs.opening.empty_list_head.Goals as goal
use Rattle.wire.specs.Answers.{as_step}

pub returns : goal.returns
returns c = c.judge_count.ensures ∙ count_read no_items _ (sym c.list_head.ensures ∙ ap as_step c.in_ok-head.was) c.unless_due-verdict.ensures

pub returns-in_err-head : goal.returns-in_err-head
returns-in_err-head c = passed_on c.from_residual.result _ c.from_residual.ensures.1 ∙ (count_missing no_items _ (sym c.list_head.ensures ∙ ap as_step c.in_err-head.was))
