-- What the program prints for the bytes that it reads.
use Rattle.std.specs.Prelude.{ℕ, List, ◌≡◌, length, leb}
use Rattle.numbers.specs.Choice.{pick}
use Rattle.numbers.specs.Rows.{over}
use Rattle.wire.specs.Reading.{Step, found, refused}
use Rattle.header.specs.Header.{Header}
use Rattle.header.specs.Tables.{header_of}
use Rattle.report.specs.Line.{refused_line, longer_line}
use Rattle.report.specs.Program.{most_bytes}
use Rattle.listing.specs.Lines.{listing}

-- for an envelope and its header: the listing, of at most as many bytes as a header that is read; or the line of a refusal, by 20 where the
-- listing is longer
unfoldable pub shown_for : List ℕ → Step Header → List ℕ
shown_for e (found h p) = pick (leb (length (listing e h.lists)) most_bytes) (listing e h.lists) (refused_line 20)
shown_for e (refused f) = refused_line f.number

-- all that is printed
unfoldable pub printed : List ℕ → List ℕ
printed input = pick (leb (length input) most_bytes) (shown_for input (header_of input)) longer_line

-- what a call leaves that prints these bytes: they stand in front, and the answer is how many they are
pub record Prints (bytes old new : List ℕ) (r : ℕ) : Type 0 where
  pub many : r ≡ length bytes
  pub stands : new ≡ over bytes old
