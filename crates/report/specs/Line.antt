-- The line that is printed for a header.
use Rattle.std.specs.Prelude.{ℕ, ◌+◌, List, ◌++◌, length, take, drop, replicate, leb, Ok, Err}
use Rattle.numbers.specs.Choice.{pick}
use Rattle.numbers.specs.Rows.{over}
use Rattle.decimals.specs.Decimal.{text, decimal}
use Rattle.header.specs.Answer.{HeaderAnswer}
use Rattle.report.specs.declared.Line.{Line}

unfoldable pub accepted_line : ℕ → ℕ → ℕ → List ℕ
accepted_line fields columns aliases =
    text "1 accepted " ++ decimal fields ++ text " fields " ++ decimal columns ++ text " columns " ++ decimal aliases ++ text " aliases\n"

unfoldable pub refused_line : ℕ → List ℕ
refused_line number = text "1 refused " ++ decimal number ++ text "\n"

unfoldable pub longer_line : List ℕ
longer_line = text "1 longer than 65536\n"

-- the whole line for the answer of the header's reader
abbrev pub header_line : HeaderAnswer → List ℕ
header_line (Ok tables) = accepted_line tables.fields tables.columns tables.aliases
header_line (Err number) = refused_line number

-- how many bytes a line has room for: 97 are the most, with three numbers of 20 digits
abbrev pub room : ℕ
room = 128

-- a line of these bytes: they stand in front, and zeros after them
abbrev pub line_of : List ℕ → Line
line_of bytes = record { bytes = over bytes (replicate room 0); len = length bytes }

-- a line with bytes added to it, where there is room for them
unfoldable pub added : Line → List ℕ → Line
added line bytes =
    pick (leb (line.len + length bytes) room)
    (record { bytes = take line.len line.bytes ++ bytes ++ drop (line.len + length bytes) line.bytes; len = line.len + length bytes })
    line
