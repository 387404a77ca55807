use Prim.Native.Nat.{ℕ}
use lib.ListN.{length-replicate}
use mathlib.Core.Path.{sym, ap, ◌∙◌}
use native.Mathlib.Omega.{arith}
use Rattle.wire.proofs.Laws.{mapped_refused}
use Rattle.envelope.specs.Envelope.{checksum_of}
use Rattle.header_payload.specs.Answers.{scan_of}
use Rattle.rows.specs.Words.{full_columns}
use Rattle.header_schema.proofs.ScanLaws.{long_enough, schema_found, schema_refused}
use borrow.Author.Rules.{rules}
use Rattle.header_schema.proofs.read_schema.Goals as goal
use Rattle.wire.specs.Answers.{as_step}

pub slice_bounds-scan_header-end : goal.slice_bounds-scan_header-end
slice_bounds-scan_header-end c = sym (length-replicate {A = ℕ} 0 0)

pub slice_bounds-scan_header-end-2 : goal.slice_bounds-scan_header-end-2
slice_bounds-scan_header-end-2 c = sym (length-replicate {A = ℕ} full_columns 0)

pub slice_bounds-scan_header-end-3 : goal.slice_bounds-scan_header-end-3
slice_bounds-scan_header-end-3 c = sym (length-replicate {A = ℕ} 0 0)

pub overflow_sub-envelope : goal.overflow_sub-envelope
overflow_sub-envelope c = let l = long_enough c.args.envelope.now (sym (ap as_step c.in-Ok.is) ∙ c.scan_header.ensures.result_value) in
    omega arith

pub returns-in-Ok : goal.returns-in-Ok
returns-in-Ok c = let a = c.args in
    let w = sym (ap as_step c.in-Ok.is) ∙ c.scan_header.ensures.result_value in
    let l = long_enough a.envelope.now w in
    rw (← (c.little_4-checksum.ensures.0.there (omega arith))) (schema_found a.envelope.now w c.little_4-checksum.result c.scan_header.ensures.settled)

pub returns-in-Err : goal.returns-in-Err
returns-in-Err c = schema_refused (checksum_of c.args.envelope.now) (mapped_refused scan_of _ (sym (ap as_step c.in-Err.is) ∙ c.scan_header.ensures.result_value)) c.scan_header.ensures.settled
