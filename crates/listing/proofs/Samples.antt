-- Worked listings, read by the definitions.
use Prim.Native.Nat.{ℕ}
use mathlib.Core.List.{List}
use mathlib.Core.Path.{◌≡◌, refl, ap, ◌∙◌}
use lib.ListN.{length}
use Rattle.numbers.specs.Numbers.{little}
use Rattle.numbers.specs.Rows.{flat}
use Rattle.checksum.specs.Crc.{shifted, bits, byte, fold, crc32}
use Rattle.wire.specs.Reading.{found, number, judged}
use Rattle.column_type.specs.Types.{known}
use Rattle.text.specs.Strings.{string_of}
use Rattle.utf8.specs.WellFormed.{due, goes_on, well_formed}
use Rattle.frames.specs.Frames.{record_of, list_of, items, frame_size, record_head, list_stop, count_judged}
use Rattle.envelope.specs.Envelope.{versioned, opened}
use Rattle.envelope.specs.Features.{features}
use Rattle.records.specs.Records.{repetition, field_head, field_texts, field, column, texts}
use Rattle.parents.specs.Parents.{meets, all_reach}
use Rattle.parents.specs.Dark.{dark}
use Rattle.header.specs.Header.{Header, columns_after, aliases_after, lists, payload}
use Rattle.header.specs.Tables.{header_of, chained}
use Rattle.reader.specs.Text.{text_of}
use Rattle.decimals.specs.Decimal.{decimal_by}
use Rattle.listing.specs.Order.{joined, below, order}
use Rattle.listing.specs.Lines.{line, entry_line, listing}
use Rattle.listing.specs.Answers.{fitted, placed}
use Rattle.listing.specs.Samples.{ListedAs, vector_header, vector_lines, VectorListed, dark_header, dark_lines, DarkListed}
use Rattle.listing.proofs.CallLaws.{fits_listed, few_refused, fits_placed, few_placed, call_answers, call_leaves}

-- a header is accepted, and its listing is these bytes
pub record ListingIs (e bytes : List ℕ) : Type 0 where
  pub header : Header
  pub stop : ℕ
  pub reads : header_of e ≡ found header stop
  pub lines : listing e header.lists ≡ bytes

listed_as : (e bytes : List ℕ) → ListingIs e bytes → ListedAs e bytes
listed_as e bytes l out out' r call =
    let answers = call_answers l.reads call ∙ ap (fitted (length out)) l.lines in
    let leaves = call_leaves l.reads call ∙ ap (placed out) l.lines in
    (λ fits. (answers ∙ fits_listed (length out) bytes fits, leaves ∙ fits_placed out bytes fits), λ few. (answers ∙ few_refused (length out) bytes few, leaves ∙ few_placed out bytes few))

computed : ListingIs vector_header vector_lines × ListingIs dark_header dark_lines
unfolding versioned opened record_of list_of items number judged string_of well_formed goes_on due frame_size record_head list_stop count_judged little crc32 fold byte bits shifted features header_of chained payload texts lists columns_after aliases_after repetition field_head field_texts field known column all_reach meets dark decimal_by joined below order line entry_line listing flat text_of
computed = (record { header = _; stop = _; reads = refl; lines = refl }, record { header = _; stop = _; reads = refl; lines = refl })

pub vector_listed : VectorListed
vector_listed = listed_as vector_header vector_lines computed.0

pub dark_listed : DarkListed
dark_listed = listed_as dark_header dark_lines computed.1
