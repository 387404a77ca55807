use mathlib.Core.Path.{sym, ap, ◌∙◌}
use Rattle.wire.proofs.Laws.{passed_on, judged_read, judged_missing}
use Rattle.records.specs.Records.{aliasable}
use borrow.Author.Rules.{rules}
use Rattle.column_records.proofs.alias.field_at.Goals as goal
use Rattle.wire.specs.Answers.{as_step}

pub returns : goal.returns
returns c = c.judge.ensures ∙ judged_read (aliasable c.args.flags.now) _ (sym c.number_4.ensures ∙ ap as_step c.in_ok-field.was) c.aliasable-verdict.ensures

pub returns-in_err-field : goal.returns-in_err-field
returns-in_err-field c = passed_on c.from_residual.result _ c.from_residual.ensures.1 ∙ (judged_missing (aliasable c.args.flags.now) _ (sym c.number_4.ensures ∙ ap as_step c.in_err-field.was))
