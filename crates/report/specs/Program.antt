-- What the program prints for the bytes that it reads.
use Rattle.std.specs.Prelude.{ℕ, List, length, leb, Ok, Err}
use Rattle.numbers.specs.Choice.{pick}
use Rattle.wire.specs.Reading.{Step, found, refused}
use Rattle.header.specs.Header.{Header}
use Rattle.header.specs.Tables.{header_of}
use Rattle.header.specs.Answer.{HeaderAnswer}
use Rattle.report.specs.Line.{header_line, longer_line}

-- the answer for a header where its tables have room
unfoldable pub verdict : Step Header → HeaderAnswer
verdict (found h p) =
    Ok (record { texts = h.texts; fields = length h.lists.fields; columns = length h.lists.columns; aliases = length h.lists.aliases })
verdict (refused f) = Err f.number

-- the most bytes of a header that a program reads
abbrev pub most_bytes : ℕ
most_bytes = 65536

-- the whole line that is printed
unfoldable pub printed : List ℕ → List ℕ
printed input = pick (leb (length input) most_bytes) (header_line (verdict (header_of input))) longer_line
