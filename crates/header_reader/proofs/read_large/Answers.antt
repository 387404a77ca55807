use Prim.Native.Nat.{ℕ}
use mathlib.Core.Path.{sym, ◌∙◌}
use lib.ListN.{length-replicate}
use Rattle.rows.specs.Words.{full_fields, full_columns, full_aliases}
use Rattle.header_reader.proofs.ScanLaws.{scanned, all_there}
use Rattle.header_reader.proofs.read_large.Goals as goal

pub slice_bounds-scan_header-end : goal.slice_bounds-scan_header-end
slice_bounds-scan_header-end c = sym (length-replicate {A = ℕ} full_fields 0)

pub slice_bounds-scan_header-end-2 : goal.slice_bounds-scan_header-end-2
slice_bounds-scan_header-end-2 c = sym (length-replicate {A = ℕ} full_columns 0)

pub slice_bounds-scan_header-end-3 : goal.slice_bounds-scan_header-end-3
slice_bounds-scan_header-end-3 c = sym (length-replicate {A = ℕ} full_aliases 0)

pub slice_bounds-answer_scan-end : goal.slice_bounds-answer_scan-end
slice_bounds-answer_scan-end c = sym (c.scan_header-step.auto.fields ∙ length-replicate {A = ℕ} full_fields 0)

pub slice_bounds-answer_scan-end-2 : goal.slice_bounds-answer_scan-end-2
slice_bounds-answer_scan-end-2 c = sym (c.scan_header-step.auto.columns ∙ length-replicate {A = ℕ} full_columns 0)

pub slice_bounds-answer_scan-end-3 : goal.slice_bounds-answer_scan-end-3
slice_bounds-answer_scan-end-3 c = sym (c.scan_header-step.auto.aliases ∙ length-replicate {A = ℕ} full_aliases 0)

pub answer_scan-requires : goal.answer_scan-requires
answer_scan-requires c = let z = c.scan_header-step.ensures in
    record { step_value = z.result_value; scanned = scanned c.args.envelope.now full_fields full_columns full_aliases (all_there c.args.envelope.now) z.settled (c.scan_header-step.auto.fields ∙ length-replicate {A = ℕ} full_fields 0) (c.scan_header-step.auto.columns ∙ length-replicate {A = ℕ} full_columns 0) (c.scan_header-step.auto.aliases ∙ length-replicate {A = ℕ} full_aliases 0) }

pub shape_of-fields : goal.shape_of-fields
shape_of-fields c = c.answer_scan.auto.fields

pub shape_of-columns : goal.shape_of-columns
shape_of-columns c = c.answer_scan.auto.columns

pub shape_of-aliases : goal.shape_of-aliases
shape_of-aliases c = c.answer_scan.auto.aliases

pub returns : goal.returns
returns c = c.answer_scan.ensures
