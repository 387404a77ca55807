use Rattle.wire.proofs.Laws.{passed_on}
use mathlib.Core.Path.{sym, ap, ◌∙◌}
use Rattle.wire.specs.Answers.{as_step, place_step}
use Rattle.records.specs.Records.{alias}
use Rattle.frames.proofs.Laws.{record_refused, content_refused, record_ended, record_spared}
use borrow.Author.Rules.{rules}
use Rattle.column_records.proofs.alias_record.Goals as goal

pub returns : goal.returns
returns c = record_ended _ (alias _ _) _ _ (sym c.record_head.ensures ∙ ap as_step c.in_ok-start.was) c.up_to.ensures (sym c.alias_at.ensures ∙ ap as_step c.in_ok-alias_row.was)
    (sym (ap place_step c.in_ok-next.was) ∙ c.close_frame.ensures)

pub returns-in_err-next : goal.returns-in_err-next
returns-in_err-next c = passed_on c.from_residual-in_err-next.result _ c.from_residual-in_err-next.ensures.1 ∙ (record_spared _ (alias _ _) _ _ (sym c.record_head.ensures ∙ ap as_step c.in_ok-start.was) c.up_to.ensures (sym c.alias_at.ensures ∙ ap as_step c.in_ok-alias_row.was)
    (sym (ap place_step c.in_err-next.was) ∙ c.close_frame.ensures))

pub returns-in_err-alias_row : goal.returns-in_err-alias_row
returns-in_err-alias_row c = passed_on c.from_residual-in_err-alias_row.result _ c.from_residual-in_err-alias_row.ensures.1 ∙ (content_refused _ (alias _ _) _ _ (sym c.record_head.ensures ∙ ap as_step c.in_ok-start.was) c.up_to.ensures (sym c.alias_at.ensures ∙ ap as_step c.in_err-alias_row.was))

pub returns-in_err-start : goal.returns-in_err-start
returns-in_err-start c = passed_on c.from_residual.result _ c.from_residual.ensures.1 ∙ (record_refused _ (alias _ _) _ _ (sym c.record_head.ensures ∙ ap as_step c.in_err-start.was))
