-- What holds of every envelope that is to be written.
use Rattle.std.specs.Prelude.{ℕ, true, false, ◌↔◌, ◌≡◌, length, leb}
use mathlib.Core.List.{List, flatten}
use Rattle.wire.specs.Reading.{Step, found, refused, accepted, unless}
use Rattle.envelope.specs.Envelope.{ceiling}
use Rattle.wire.specs.declared.Fault.{Fault}
use Rattle.records.specs.declared.HeaderTexts.{HeaderTexts}
use Rattle.header.specs.Header.{Header}
use Rattle.header.specs.Tables.{header_of}
use Rattle.footer.specs.Footer.{Footer, footer_of}
use Rattle.page_list.specs.PageList.{page_list_of}
use Rattle.tree.specs.HeaderTree.{header_content, render_header}
use Rattle.tree.specs.Spelling.{standard}
use Rattle.writing.specs.Piece.{Piece}
use Rattle.writing.specs.Rows.{HeaderRows}
use Rattle.writing.specs.Header.{header_piece, header_says}
use Rattle.writing.specs.Footer.{carries_for, all_as_carried, footer_piece}
use Rattle.writing.specs.PageList.{by_column, in_column_order, pages_say, page_list_piece}
use Rattle.writing.specs.declared.PageWords.{PageWords}

-- an envelope that is to be written, beside what its reader makes of the bytes as they would stand; `Same a`: what the reader gives says what
-- the tables say
pub record Promised {A : Type 0} (x : Piece) (read : Step A) (Same : A → Type 0) : Type 0 where
  -- what is not refused is accepted by the reader, says the same, and is as long as it was said to be
  pub accepts : x.number ≡ 0 → (a : A) × (q : ℕ) × (read ≡ found a q) × Same a
  pub long : x.number ≡ 0 → length x.bytes ≡ x.long
  -- where every number fits its place and every string lies in the lent strings, what is refused is refused by the reader, by the same number
  pub refuses : x.fits ≡ true → (x.number ≡ 0 → ⊥) → (f : Fault) × (read ≡ refused f) × (f.number ≡ x.number)
  -- nothing else is refused
  pub exactly : (x.number ≡ 0) ↔ ((x.fits ≡ true) × (accepted read ≡ true))

unfoldable pub HeaderPromised : Type 0
HeaderPromised =
    (strings : List ℕ) (named : HeaderTexts) (t : HeaderRows)
    → Promised (header_piece strings named t) (header_of (header_piece strings named t).bytes) (λ h. header_content (header_piece strings named t).bytes h ≡ header_says strings named t)

-- a header's bytes are the standard spelling of what its tables say
unfoldable pub HeaderSpelled : Type 0
HeaderSpelled = (strings : List ℕ) (named : HeaderTexts) (t : HeaderRows) → (header_piece strings named t).bytes ≡ render_header (standard (header_says strings named t))

-- beside a header with this checksum, in a file of so many bytes
unfoldable pub FooterPromised : Type 0
FooterPromised =
    (checksum file : ℕ) (f : Footer) → Promised (footer_piece checksum file f) (footer_of checksum file (footer_piece checksum file f).bytes) (λ g. g ≡ f)

-- rows some of which have a checksum of their page list and some have none are refused by 19, whatever else there is
unfoldable pub MixedRows : Type 0
MixedRows = (checksum file : ℕ) (f : Footer) → all_as_carried (carries_for f.clusters) f.clusters ≡ false → (footer_piece checksum file f).number ≡ 19

-- beside a header
unfoldable pub PageListPromised : Type 0
PageListPromised =
    (h : Header) (entries file : ℕ) (rows : List PageWords)
    → Promised (page_list_piece h entries file rows) (page_list_of h entries file (page_list_piece h entries file rows).bytes) (λ pss. pss ≡ pages_say (length h.lists.columns) rows)

-- the rows of each column, one column after the other, are the rows, where these stand in the order of their columns
unfoldable pub InOrderOfColumns : Type 0
InOrderOfColumns = (n : ℕ) (rows : List PageWords) → in_column_order n 0 rows ≡ true → flatten (by_column 0 n rows) ≡ rows

-- other rows are refused by 14, or by 1
unfoldable pub OutOfOrder : Type 0
OutOfOrder =
    (h : Header) (entries file : ℕ) (rows : List PageWords) → in_column_order (length h.lists.columns) 0 rows ≡ false
    → (page_list_piece h entries file rows).number ≡ unless (leb (page_list_piece h entries file rows).long ceiling) 1 14
