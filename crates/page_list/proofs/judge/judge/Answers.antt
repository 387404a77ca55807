use Rattle.wire.proofs.Laws.{handed_on}
use mathlib.Core.Path.{sym, ap, ◌∙◌}
use lib.Seq.{length-take-le}
use Rattle.envelope.specs.Answers.{open_step}
use Rattle.column_pages.specs.Answers.{bits_in}
use Rattle.page_list.proofs.JudgeLaws.{columns_inside, judged_refused, judged_wrong, judged_right, envelope_open, envelope_refused}
use borrow.Author.Rules.{rules}
use Rattle.page_list.proofs.judge.judge.Goals as goal

pub slice_bounds-elements-end : goal.slice_bounds-elements-end
slice_bounds-elements-end c = let a = c.args in columns_inside _ a.file _ a.rows.now a.n c.scan_payload-sums.ensures c.in_ok-count.was

pub slice_bounds-totals_of-end : goal.slice_bounds-totals_of-end
slice_bounds-totals_of-end c = let a = c.args in sym (length-take-le _ _ (columns_inside _ a.file _ a.rows.now a.n c.scan_payload-sums.ensures c.in_ok-count.was))

pub returns-in-None : goal.returns-in-None
returns-in-None c = let a = c.args in
    rw (envelope_open a.file (bits_in a.rows.now a.n) a.e.now (sym c.open_envelope.ensures ∙ ap open_step c.in_ok-opening.was), ← c.up_to-s.ensures)
    (judged_right _ a.file _ a.rows.now a.n c.scan_payload-sums.ensures c.in_ok-count.was a.entries a.parents.now a.flags.now c.totals_of.ensures _ a.e.now c.up_to-s.ensures c.in-None.is)

pub returns-in-Some : goal.returns-in-Some
returns-in-Some c = let a = c.args in
    rw (c.total_fault.ensures, envelope_open a.file (bits_in a.rows.now a.n) a.e.now (sym c.open_envelope.ensures ∙ ap open_step c.in_ok-opening.was), ← c.up_to-s.ensures)
    (judged_wrong _ a.file _ a.rows.now a.n c.scan_payload-sums.ensures c.in_ok-count.was a.entries a.parents.now a.flags.now c.totals_of.ensures a.e.now c.in-Some.is)

pub returns-in_err-count : goal.returns-in_err-count
returns-in_err-count c = let a = c.args in
    rw (handed_on c.from_residual-in_err-count.result _ c.from_residual-in_err-count.ensures.1, envelope_open a.file (bits_in a.rows.now a.n) a.e.now (sym c.open_envelope.ensures ∙ ap open_step c.in_ok-opening.was), ← c.up_to-s.ensures)
    (judged_refused _ a.file _ a.rows.now a.n a.entries _ _ _ a.e.now c.scan_payload-sums.ensures c.in_err-count.was)

pub returns-in_err-opening : goal.returns-in_err-opening
returns-in_err-opening c = let a = c.args in
    rw (handed_on c.from_residual.result _ c.from_residual.ensures.1) (envelope_refused a.file _ a.e.now _ a.entries _ _ _ (sym c.open_envelope.ensures ∙ ap open_step c.in_err-opening.was))
