-- A page list as it is written: each part in the order of the reader's rules, with the reader's verdicts.
use Rattle.std.specs.Prelude.{ℕ, zero, suc, ◌+◌, ◌*◌, ◌^◌, List, [], ◌∷◌, map, Bool, true, length, get_or, ltb, leb, eqb}
use Rattle.numbers.specs.Choice.{pick, both}
use Rattle.numbers.specs.Numbers.{bytes_for, trailer}
use Rattle.locator.specs.Locator.{stored_as, in_file}
use Rattle.header.specs.Header.{Header}
use Rattle.pages.specs.Pages.{running_total}
use Rattle.column_pages.specs.ColumnPages.{bits_of, per_column}
use Rattle.std.specs.Prelude.{Option, Some, None}
use Rattle.rows.specs.declared.FieldNumber.{FieldNumber}
use Rattle.page_list.specs.PageList.{totals_of}
use Rattle.rows.specs.declared.PageRow.{PageRow}
use Rattle.tree.specs.Bytes.{spelled}
use Rattle.writing.specs.Piece.{Piece, placed, alone, put, in_order, list_piece, tested_first, tested_last, enveloped}
use Rattle.writing.specs.declared.PageWords.{PageWords}

-- a page's first word: the element count, in 30 bits, and bit 30 above it
unfoldable pub page_word_piece : PageWords → Piece
page_word_piece p = alone (spelled 4 (p.elements + 2 ^ 30 * p.bit)) 4 (placed (both (ltb p.elements (2 ^ 30)) (ltb p.bit 2)) 25 0)

-- a page whose elements have so many bits
unfoldable pub page_piece : ℕ → ℕ → PageWords → Piece
page_piece file bits p =
    in_order (
    page_word_piece p
    ∷ put 4 31 (stored_as (bytes_for p.elements bits)) p.size
    ∷ put 8 64 (in_file file p.size (trailer (eqb p.bit 1))) p.offset
    ∷ [])

-- the rows of column c
unfoldable pub of_column : ℕ → List PageWords → List PageWords
of_column c [] = []
of_column c (p ∷ ps) = pick (eqb p.column c) (p ∷ of_column c ps) (of_column c ps)

-- the rows of n columns from number c on, column by column
unfoldable pub by_column : ℕ → ℕ → List PageWords → List (List PageWords)
by_column c zero rows = []
by_column c (suc n) rows = of_column c rows ∷ by_column (suc c) n rows

-- the rows stand in the order of their columns, from column c on, and each names one of n
unfoldable pub in_column_order : ℕ → ℕ → List PageWords → Bool
in_column_order n c [] = true
in_column_order n c (p ∷ ps) = both (leb c p.column) (both (ltb p.column n) (in_column_order n p.column ps))

-- how many pages there are
unfoldable pub pages_in : List (List PageWords) → ℕ
pages_in [] = 0
pages_in (ps ∷ rest) = length ps + pages_in rest

-- a page of a column whose elements have so many bits; and the list of a column's pages, after those of the columns before

abbrev pub page_item : ℕ → ℕ → List PageWords → PageWords → Piece
page_item file bits before p = page_piece file bits p

abbrev pub column_pages_item : ℕ → List ℕ → List (List PageWords) → List PageWords → Piece
column_pages_item file bits before ps = list_piece (running_total (pages_in before)) (page_item file (get_or bits (length before) 0)) ps

-- one list of pages for each column, where the elements of each column have these bits
unfoldable pub page_list_payload_piece : ℕ → List ℕ → List (List PageWords) → Piece
page_list_payload_piece file bits pss = list_piece (per_column (length bits)) (column_pages_item file bits) pss

-- the row that the reader gives back
abbrev pub page_says : PageWords → PageRow
page_says p = record { column = record { 0 = p.column }; elements = p.elements; checksum = eqb p.bit 1; size = p.size; offset = p.offset }

-- what the table says, column by column
unfoldable pub pages_say : ℕ → List PageWords → List (List PageRow)
pages_say columns rows = map (map page_says) (by_column 0 columns rows)

-- a page list's length counts every row, whatever its column
abbrev pub counting_all : ℕ → ℕ → Piece → Piece
counting_all columns rows x =
    record { bytes = x.bytes; long = 8 + 8 * columns + 16 * rows; fits = x.fits; number = x.number; places = x.places }

-- a verdict on the totals
abbrev pub totals_number : Option FieldNumber → ℕ
totals_number None = 0
totals_number (Some f) = 19

-- the page list of a table beside a header, for a cluster of so many entries: version 1, minimum 1
unfoldable pub page_list_piece : Header → ℕ → ℕ → List PageWords → Piece
page_list_piece h entries file rows =
    let columns = h.lists.columns in
    let n = length columns in
    tested_last
    (enveloped 1 1
    (tested_first (in_column_order n 0 rows) 14
    (counting_all n (length rows) (page_list_payload_piece file (bits_of columns) (by_column 0 n rows)))))
    (totals_number (totals_of entries h.lists (pages_say n rows)))
