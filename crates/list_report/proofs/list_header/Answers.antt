use mathlib.Core.Path.{ap, ◌∙◌}
use native.Mathlib.Omega.{arith}
use Rattle.report.specs.Line.{line_of, refused_line}
use Rattle.report.proofs.LineLaws.{line_counts}
use Rattle.list_report.proofs.PrintedLaws.{prints_counts, prints_line, prints_over, longer_same, listed_prints, refused_prints}
use Rattle.list_report.proofs.list_header.Goals as goal

pub returns-then-input-gt-MOST_BYTES : goal.returns-then-input-gt-MOST_BYTES
returns-then-input-gt-MOST_BYTES c = let p = prints_line _ (c.check_header.ensures.value ∙ ap line_of (longer_same c.args.input.now c.if-input-gt-MOST_BYTES.true)) c.put_line.ensures in record { prints = p; counts = prints_counts p }

pub put_line-requires-in-Err : goal.put_line-requires-in-Err
put_line-requires-in-Err c = line_counts (refused_line c.in-Err.number) c.header_line.ensures

pub returns-in-Ok : goal.returns-in-Ok
returns-in-Ok c = let p = listed_prints c.args.input.now c.if-input-gt-MOST_BYTES.false c.args.out.now (omega (arith, c.well_formed)) _ c.in-Ok.is c.list_fields.ensures in record { prints = p; counts = prints_counts p }

pub returns-in-Err : goal.returns-in-Err
returns-in-Err c = let r = refused_prints c.args.input.now c.if-input-gt-MOST_BYTES.false c.args.out.now (omega (arith, c.well_formed)) _ c.in-Err.is c.list_fields.ensures in
    let p = prints_over r.1 (prints_line _ (c.header_line.ensures ∙ ap line_of r.0) c.put_line-in-Err.ensures) in record { prints = p; counts = prints_counts p }
