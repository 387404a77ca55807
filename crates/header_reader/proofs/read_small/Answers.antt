use Prim.Native.Nat.{ℕ}
use mathlib.Core.Path.{sym, ap, ◌∙◌}
use lib.ListN.{length-replicate}
use Rattle.header_reader.specs.Fits.{rows_there, small_fields, small_columns, small_aliases}
use Rattle.header_reader.proofs.ScanLaws.{scanned}
use Rattle.header_reader.proofs.read_small.Goals as goal

pub slice_bounds-scan_header-end : goal.slice_bounds-scan_header-end
slice_bounds-scan_header-end c = sym (length-replicate {A = ℕ} small_fields 0)

pub slice_bounds-scan_header-end-2 : goal.slice_bounds-scan_header-end-2
slice_bounds-scan_header-end-2 c = sym (length-replicate {A = ℕ} small_columns 0)

pub slice_bounds-scan_header-end-3 : goal.slice_bounds-scan_header-end-3
slice_bounds-scan_header-end-3 c = sym (length-replicate {A = ℕ} small_aliases 0)

pub slice_bounds-answer_scan-end : goal.slice_bounds-answer_scan-end
slice_bounds-answer_scan-end c = sym (c.scan_header-step.auto.fields ∙ length-replicate {A = ℕ} small_fields 0)

pub slice_bounds-answer_scan-end-then-rows_there : goal.slice_bounds-answer_scan-end-then-rows_there
slice_bounds-answer_scan-end-then-rows_there c = sym (c.scan_header-step.auto.columns ∙ length-replicate {A = ℕ} small_columns 0)

pub slice_bounds-answer_scan-end-then-rows_there-2 : goal.slice_bounds-answer_scan-end-then-rows_there-2
slice_bounds-answer_scan-end-then-rows_there-2 c = sym (c.scan_header-step.auto.aliases ∙ length-replicate {A = ℕ} small_aliases 0)

pub answer_scan-requires : goal.answer_scan-requires
answer_scan-requires c = let z = c.scan_header-step.ensures in
    record { step_value = z.result_value; scanned = scanned c.args.envelope.now small_fields small_columns small_aliases (sym (ap (rows_there small_fields small_columns small_aliases) z.result_value) ∙ sym c.rows_there.ensures ∙ c.if-rows_there.true) z.settled (c.scan_header-step.auto.fields ∙ length-replicate {A = ℕ} small_fields 0) (c.scan_header-step.auto.columns ∙ length-replicate {A = ℕ} small_columns 0) (c.scan_header-step.auto.aliases ∙ length-replicate {A = ℕ} small_aliases 0) }

pub shape_of-fields-then-rows_there : goal.shape_of-fields-then-rows_there
shape_of-fields-then-rows_there c = c.answer_scan.auto.fields

pub shape_of-columns-then-rows_there : goal.shape_of-columns-then-rows_there
shape_of-columns-then-rows_there c = c.answer_scan.auto.columns

pub shape_of-aliases-then-rows_there : goal.shape_of-aliases-then-rows_there
shape_of-aliases-then-rows_there c = c.answer_scan.auto.aliases

pub returns-then-rows_there : goal.returns-then-rows_there
returns-then-rows_there c = c.answer_scan.ensures

pub shape_of-fields : goal.shape_of-fields
shape_of-fields c = c.read_large.auto.fields

pub shape_of-columns : goal.shape_of-columns
shape_of-columns c = c.read_large.auto.columns

pub shape_of-aliases : goal.shape_of-aliases
shape_of-aliases c = c.read_large.auto.aliases

pub returns : goal.returns
returns c = c.read_large.ensures
