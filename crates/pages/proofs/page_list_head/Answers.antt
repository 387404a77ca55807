use Rattle.wire.proofs.Laws.{passed_on}
use mathlib.Core.Path.{sym, ap, ◌∙◌}
use Rattle.frames.proofs.Laws.{count_read, count_missing}
use Rattle.pages.specs.Pages.{running_total}
use borrow.Author.Rules.{rules}
use Rattle.pages.proofs.page_list_head.Goals as goal
use Rattle.wire.specs.Answers.{as_step}

pub returns : goal.returns
returns c = c.judge_count.ensures ∙ count_read (running_total c.args.total) _ (sym c.list_head.ensures ∙ ap as_step c.in_ok-head.was) c.running_total-verdict.ensures

pub returns-in_err-head : goal.returns-in_err-head
returns-in_err-head c = passed_on c.from_residual.result _ c.from_residual.ensures.1 ∙ (count_missing (running_total c.args.total) _ (sym c.list_head.ensures ∙ ap as_step c.in_err-head.was))
