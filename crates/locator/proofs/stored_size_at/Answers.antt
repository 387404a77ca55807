use mathlib.Core.Path.{sym, ap, ◌∙◌}
use Rattle.locator.specs.Locator.{stored_as}
use Rattle.wire.proofs.Laws.{passed_on, judged_read, judged_missing}
use borrow.Author.Rules.{rules}
use Rattle.locator.proofs.stored_size_at.Goals as goal
use Rattle.wire.specs.Answers.{as_step}

pub returns : goal.returns
returns c = c.judge.ensures ∙ judged_read (stored_as _) _ (sym c.number_4.ensures ∙ ap as_step c.in_ok-word.was) c.stored_as.ensures

pub returns-in_err-word : goal.returns-in_err-word
returns-in_err-word c = passed_on c.from_residual.result _ c.from_residual.ensures.1 ∙ (judged_missing (stored_as _) _ (sym c.number_4.ensures ∙ ap as_step c.in_err-word.was))
