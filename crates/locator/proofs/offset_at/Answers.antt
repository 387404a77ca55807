use mathlib.Core.Path.{sym, ap, ◌∙◌}
use Rattle.locator.specs.Locator.{in_file}
use Rattle.wire.proofs.Laws.{passed_on, judged_read, judged_missing}
use borrow.Author.Rules.{rules}
use Rattle.locator.proofs.offset_at.Goals as goal
use Rattle.wire.specs.Answers.{as_step}

pub returns : goal.returns
returns c = c.judge.ensures ∙ judged_read (in_file _ _ _) _ (sym c.number_8.ensures ∙ ap as_step c.in_ok-offset.was) c.starts_in_file.ensures

pub returns-in_err-offset : goal.returns-in_err-offset
returns-in_err-offset c = passed_on c.from_residual.result _ c.from_residual.ensures.1 ∙ (judged_missing (in_file _ _ _) _ (sym c.number_8.ensures ∙ ap as_step c.in_err-offset.was))
