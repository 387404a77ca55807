use borrow.Author.Tests.{lt-leb}
use lib.ListN.{length}
use Rattle.report.specs.Line.{header_line, longer_line}
use Rattle.report.specs.Program.{most_bytes, printed}
use Rattle.report.proofs.LineLaws.{line_counts}
use Rattle.report.proofs.RoomLaws.{header_printed}
use Rattle.report.proofs.check_header.Goals as goal

pub returns-then-input-gt-MOST_BYTES : goal.returns-then-input-gt-MOST_BYTES
unfolding printed
returns-then-input-gt-MOST_BYTES c = let input = c.args.input.now in
    record { value = rw (lt-leb (length input) most_bytes c.if-input-gt-MOST_BYTES.true) c.longer_line.ensures; prefix_len = line_counts longer_line c.longer_line.ensures }

pub returns : goal.returns
returns c = let read = c.read_header in record { value = header_printed c.args.input.now c.if-input-gt-MOST_BYTES.false read.ensures.answers c.header_line.ensures; prefix_len = line_counts (header_line read.result) c.header_line.ensures }
