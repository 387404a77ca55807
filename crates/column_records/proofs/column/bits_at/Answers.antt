use mathlib.Core.Path.{sym, ap, ◌∙◌}
use Rattle.wire.proofs.Laws.{passed_on, judged_read, judged_missing}
use Rattle.records.specs.Records.{sized}
use borrow.Author.Rules.{rules}
use Rattle.column_records.proofs.column.bits_at.Goals as goal
use Rattle.wire.specs.Answers.{as_step}

pub returns : goal.returns
returns c = c.judge.ensures ∙ judged_read (sized c.args.column_type) _ (sym c.number_2.ensures ∙ ap as_step c.in_ok-bits.was) c.sized.ensures

pub returns-in_err-bits : goal.returns-in_err-bits
returns-in_err-bits c = passed_on c.from_residual.result _ c.from_residual.ensures.1 ∙ (judged_missing (sized c.args.column_type) _ (sym c.number_2.ensures ∙ ap as_step c.in_err-bits.was))
