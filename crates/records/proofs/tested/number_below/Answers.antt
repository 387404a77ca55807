use mathlib.Core.Path.{sym, ap, ◌∙◌}
use Rattle.wire.proofs.Laws.{passed_on, judged_read, judged_missing}
use Rattle.wire.specs.Reading.{below}
use Rattle.wire.specs.Answers.{as_step}
use borrow.Author.Rules.{rules}
use Rattle.records.proofs.tested.number_below.Goals as goal

pub returns : goal.returns
returns c = c.judge.ensures ∙ judged_read (below c.args.count) _ (sym c.number_4.ensures ∙ ap as_step c.in_ok-v.was) c.below.ensures

pub returns-in_err-v : goal.returns-in_err-v
returns-in_err-v c = passed_on c.from_residual.result _ c.from_residual.ensures.1 ∙ (judged_missing (below c.args.count) _ (sym c.number_4.ensures ∙ ap as_step c.in_err-v.was))
