-- What encoding calls wrote page by page, one call on a column reads back, and the other way round: for every type, with checksums and without.
use Rattle.std.specs.Prelude.{ℕ, ◌+◌, ◌≤◌, ◌≡◌, List, [], ◌∷◌, ◌++◌, true, length, take}
use Rattle.numbers.specs.Numbers.{trailer}
use Rattle.numbers.specs.Rows.{over}
use Rattle.rows.specs.Tables.{rows_in}
use Rattle.coding.specs.Inverses.{Below}
use Rattle.page_rules.specs.Page.{accept, encode_outcome, encoded}
use Rattle.column_rules.specs.declared.ColumnPage.{ColumnPage}
use Rattle.column_rules.specs.Column.{accept_all, column_page_width, most_column_pages, column_pages, inside, page_bytes, Decoding, index_of, whole_column}
use Rattle.column_rules.specs.Statements.{elements_of}
use Rattle.column_rules.specs.Samples.{sample_file, nine_bits, four_bits, nine_words}

-- the bytes of a page with those of its checksum
abbrev pub stored_size : ColumnPage → ℕ
stored_size p = p.size + trailer p.checksum

-- each page has the property at its own place in the words: the first at `start`, every other where the one before it ended
abbrev pub EachAt : (ColumnPage → ℕ → Type 0) → List ColumnPage → ℕ → Type 0
EachAt P [] start = Unit {0}
EachAt P (p ∷ ps) start = P p start × EachAt P ps (start + p.elements)

-- a page of a file part whose bytes, wherever they lie, an accepted encoding of the words from `start` on has left
pub record Written (t : ℕ) (file words : List ℕ) (p : ColumnPage) (start : ℕ) : Type 0 where
  pub room : List ℕ
  pub accepted : encode_outcome t p.elements p.checksum words start (length room) ≡ accept (stored_size p)
  pub is_inside : inside file p ≡ true
  pub bytes_are : page_bytes file p ≡ take (stored_size p) (encoded t p.elements p.checksum words start room)

-- a column of pages that were so written is accepted wherever there is room, and gives back the words that they were written from
unfoldable pub EncodeDecodeColumn : Type 0
EncodeDecodeColumn =
    (t : ℕ) (file table words old : List ℕ) → rows_in column_page_width table ≤ most_column_pages
    → EachAt (Written t file words) (column_pages table) 0 → elements_of (column_pages table) ≤ length old
    → whole_column t file table old ≡ record { outcome = accept_all (rows_in column_page_width table); words = over (take (elements_of (column_pages table)) words) old }

-- the worked column of two pages is so written: there are such columns
abbrev pub SampleWritten : Type 0
SampleWritten = EachAt (Written 6 sample_file (nine_words ++ (1 ∷ 1 ∷ 0 ∷ 1 ∷ []))) (column_pages (nine_bits ++ four_bits)) 0

-- encoding accepts the words from `start` on wherever there is room for the page, and writes the bytes that it has
abbrev pub EncodedAgain : ℕ → List ℕ → List ℕ → ColumnPage → ℕ → Type 0
EncodedAgain t file words p start =
    (room : List ℕ) → stored_size p ≤ length room
    → (encode_outcome t p.elements p.checksum words start (length room) ≡ accept (stored_size p))
    × (encoded t p.elements p.checksum words start room ≡ over (page_bytes file p) room)

-- the pages before the refused one, or all where none is refused, are so encoded from the words that the call left
unfoldable pub DecodeEncodeColumn : Type 0
DecodeEncodeColumn =
    (t : ℕ) (file table old : List ℕ) → rows_in column_page_width table ≤ most_column_pages → Below 256 file
    → let d : Decoding = whole_column t file table old in
    EachAt (EncodedAgain t file d.words) (take (index_of d) (column_pages table)) 0
