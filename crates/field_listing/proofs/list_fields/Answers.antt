use Prim.Native.Nat.{ℕ}
use mathlib.Core.Path.{sym, ap, ◌∙◌}
use lib.ListN.{length-replicate}
use Rattle.wire.proofs.Laws.{mapped_refused}
use Rattle.rows.specs.Words.{full_fields, full_columns, full_aliases}
use Rattle.header_payload.specs.Answers.{scan_of}
use Rattle.header_reader.proofs.ScanLaws.{scanned, all_there}
use Rattle.moves.proofs.Laws.{parents_long}
use Rattle.field_listing.proofs.Listed.{refused_answer, listed_answer}
use Rattle.field_listing.proofs.list_fields.Goals as goal
use Rattle.wire.specs.Answers.{as_step}

pub slice_bounds-dark_marks-end : goal.slice_bounds-dark_marks-end
slice_bounds-dark_marks-end c = parents_long c.args.envelope.now (sym (ap as_step c.in-Ok.is) ∙ c.scan_header.ensures.result_value) c.scan_header.ensures.settled

pub returns-in-Ok : goal.returns-in-Ok
returns-in-Ok c = let z = c.scan_header.ensures in
    let e = c.args.envelope.now in
    let there = scanned e full_fields full_columns full_aliases (all_there e) z.settled (c.scan_header.auto.fields ∙ length-replicate {A = ℕ} full_fields 0) (c.scan_header.auto.columns ∙ length-replicate {A = ℕ} full_columns 0) (c.scan_header.auto.aliases ∙ length-replicate {A = ℕ} full_aliases 0) in
    listed_answer e (sym (ap as_step c.in-Ok.is) ∙ z.result_value) there c.dark_marks-marks.result c.dark_marks-marks.ensures c.list_rows.ensures.answers c.list_rows.ensures.leaves

pub returns-in-Err : goal.returns-in-Err
returns-in-Err c = refused_answer c.args.envelope.now c.args.out.now (mapped_refused scan_of _ (sym (ap as_step c.in-Err.is) ∙ c.scan_header.ensures.result_value))
