use mathlib.Core.Path.{sym, ap, ◌∙◌}
use Rattle.wire.proofs.Laws.{passed_on, judged_read, judged_missing}
use Rattle.wire.specs.Reading.{listed}
use Rattle.wire.specs.Answers.{as_step}
use borrow.Author.Rules.{rules}
use Rattle.records.proofs.tested.listed_2.Goals as goal

pub returns : goal.returns
returns c = c.judge.ensures ∙ judged_read (listed c.args.most) _ (sym c.number_2.ensures ∙ ap as_step c.in_ok-v.was) c.listed.ensures

pub returns-in_err-v : goal.returns-in_err-v
returns-in_err-v c = passed_on c.from_residual.result _ c.from_residual.ensures.1 ∙ (judged_missing (listed c.args.most) _ (sym c.number_2.ensures ∙ ap as_step c.in_err-v.was))
