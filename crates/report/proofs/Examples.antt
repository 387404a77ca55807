-- The outputs that document 01 gives whole.
use mathlib.Core.Path.{refl}
use borrow.Author.Tests.{lt-leb}
use lib.ListN.{length}
use Rattle.numbers.specs.Numbers.{little}
use Rattle.decimals.specs.Decimal.{decimal_by}
use Rattle.checksum.specs.Crc.{shifted, bits, byte, fold, crc32}
use Rattle.wire.specs.Reading.{number, judged, in_item}
use Rattle.text.specs.Strings.{string_of}
use Rattle.utf8.specs.WellFormed.{due, goes_on, well_formed}
use Rattle.frames.specs.Frames.{list_of, items, frame_size, list_stop, count_judged}
use Rattle.envelope.specs.Envelope.{versioned, opened}
use Rattle.envelope.specs.Features.{features}
use Rattle.header.specs.Header.{columns_after, aliases_after, lists, payload}
use Rattle.records.specs.Records.{texts}
use Rattle.parents.specs.Parents.{all_reach}
use Rattle.header.specs.Tables.{header_of, chained}
use Rattle.report.specs.Line.{accepted_line, refused_line, longer_line}
use Rattle.report.specs.Program.{verdict, printed}
use Rattle.report.specs.Printed.{SmallestHeader, EmptyInput, LongerInput}

pub smallest_header_lem : SmallestHeader
unfolding printed verdict accepted_line decimal_by header_of chained all_reach versioned opened little crc32 fold byte bits shifted payload texts lists columns_after aliases_after features number judged string_of well_formed goes_on due list_of items frame_size list_stop count_judged in_item
smallest_header_lem = refl

pub empty_input : EmptyInput
unfolding printed verdict refused_line decimal_by header_of chained versioned opened
empty_input = refl

pub longer_input : LongerInput
unfolding printed longer_line
longer_input input h = rw (lt-leb (length input) 65536 h)
