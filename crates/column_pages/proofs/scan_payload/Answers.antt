use mathlib.Core.Path.{sym, ap, ◌∙◌}
use lib.ListN.{length}
use Rattle.wire.specs.Answers.{as_step, place_step}
use Rattle.frames.specs.Frames.{closed}
use Rattle.column_pages.specs.Answers.{sums_of}
use Rattle.column_pages.proofs.ColumnLaws.{head_passes, payload_read, payload_spare, payload_fault, payload_refused}
use borrow.Author.Rules.{rules}
use Rattle.column_pages.proofs.scan_payload.Goals as goal

pub scan_columns-sums-requires : goal.scan_columns-sums-requires
scan_columns-sums-requires c = let a = c.args in (head_passes a.strict a.file a.columns.now a.n a.s.now (sym c.column_list_head.ensures ∙ ap as_step c.in-Ok.is)).0

pub returns-in-Ok-close_frame : goal.returns-in-Ok-close_frame
returns-in-Ok-close_frame c = let a = c.args in
    payload_read a.strict a.file a.columns.now a.n a.s.now (sym c.column_list_head.ensures ∙ ap as_step c.in-Ok.is) c.up_to.ensures c.scan_columns-sums.ensures
    (sym (ap as_step c.in-Ok-close_list.is) ∙ c.close_list.ensures) (sym (ap place_step c.in-Ok-close_frame.is) ∙ c.close_frame.ensures)

pub returns-in-Err-close_frame : goal.returns-in-Err-close_frame
returns-in-Err-close_frame c = let a = c.args in
    c.no_sums.ensures ∙ sym (ap sums_of (payload_spare a.strict a.file a.columns.now a.n a.s.now (sym c.column_list_head.ensures ∙ ap as_step c.in-Ok.is) c.up_to.ensures c.scan_columns-sums.ensures
    (sym (ap as_step c.in-Ok-close_list.is) ∙ c.close_list.ensures) (sym (ap place_step c.in-Err-close_frame.is) ∙ c.close_frame.ensures)))

pub returns-in-Err-close_list : goal.returns-in-Err-close_list
returns-in-Err-close_list c = let a = c.args in
    c.no_sums-in-Err-close_list.ensures ∙ sym (ap sums_of (payload_fault a.strict a.file a.columns.now a.n a.s.now (sym c.column_list_head.ensures ∙ ap as_step c.in-Ok.is) c.up_to.ensures c.scan_columns-sums.ensures
    (sym (ap as_step c.in-Err-close_list.is) ∙ c.close_list.ensures)))

pub returns-in-Err : goal.returns-in-Err
returns-in-Err c = let a = c.args in
    c.no_sums-in-Err.ensures ∙ sym (ap (λ x. sums_of (closed a.strict (length a.s.now) x)) (payload_refused a.strict a.file a.columns.now a.n a.s.now (sym c.column_list_head.ensures ∙ ap as_step c.in-Err.is)))
