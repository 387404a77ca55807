-- What holds of every call on a column.
use Rattle.std.specs.Prelude.{ℕ, suc, ◌+◌, ◌*◌, ◌≤◌, ◌<◌, List, [], ◌∷◌, ◌++◌, ◌⊎◌, ◌≡◌, length, take}
use Rattle.numbers.specs.Rows.{flat, over}
use Rattle.rows.specs.Tables.{rows_in}
use Rattle.page_rules.specs.Page.{elements}
use Rattle.column_rules.specs.declared.ColumnPage.{ColumnPage}
use Rattle.column_rules.specs.Column.{accept_all, refuse_at, column_page_width, most_column_pages, column_pages, page_bytes, Decoding, index_of, whole_column}

-- the elements of a page in a part of a file
abbrev pub page_elements : ℕ → List ℕ → ColumnPage → List ℕ
page_elements t file p = elements t p.elements (page_bytes file p)

-- how many elements pages have together, by their rows
unfoldable pub elements_of : List ColumnPage → ℕ
elements_of [] = 0
elements_of (p ∷ ps) = p.elements + elements_of ps

-- The lent words have the elements of the pages before the refused one, or of all where none is refused: page after page from the first word
-- on, without gaps. Beyond them they are as they were.
unfoldable pub Filled : Type 0
Filled =
    (t : ℕ) (file table old : List ℕ) → rows_in column_page_width table ≤ most_column_pages
    → let d : Decoding = whole_column t file table old in
    let all : List ℕ = flat (page_elements t file) (take (index_of d) (column_pages table)) in
    (length all ≤ length old) × (d.words ≡ over all old)

-- the pages before a refused one are accepted without it, and leave the same words
unfoldable pub BeforeRefused : Type 0
BeforeRefused =
    (t k i : ℕ) (file table old : List ℕ) → rows_in column_page_width table ≤ most_column_pages → (whole_column t file table old).outcome ≡ refuse_at k i
    → whole_column t file (take (column_page_width * i) table) old ≡ record { outcome = accept_all i; words = (whole_column t file table old).words }

-- whatever stands in the table behind the row of a refused page, and be it no row at all, the call answers and leaves the same
unfoldable pub RestUnseen : Type 0
RestUnseen =
    (t k i : ℕ) (file table rest old : List ℕ) → rows_in column_page_width table ≤ most_column_pages → (whole_column t file table old).outcome ≡ refuse_at k i
    → rows_in column_page_width (take (column_page_width * suc i) table ++ rest) ≤ most_column_pages
    → whole_column t file (take (column_page_width * suc i) table ++ rest) old ≡ whole_column t file table old

-- a refusal of page i, by one of these numbers
abbrev pub RefusedAt : List ℕ → ℕ → Decoding → Type 0
RefusedAt [] i d = ⊥
RefusedAt (k ∷ ks) i d = (d.outcome ≡ refuse_at k i) ⊎ RefusedAt ks i d

-- the numbers that a page of a column is refused with
abbrev pub in_column : List ℕ
in_column = 23 ∷ 10 ∷ 18 ∷ 21 ∷ 22 ∷ 24 ∷ 20 ∷ []

-- a call accepts so many pages, or refuses one of them by one of these numbers
abbrev pub AcceptsOr : List ℕ → ℕ → Decoding → Type 0
AcceptsOr ks pages d = (d.outcome ≡ accept_all pages) ⊎ ((index_of d < pages) × RefusedAt ks (index_of d) d)

-- a call accepts all pages, or refuses one of them by one of its numbers
unfoldable pub ColumnNumbers : Type 0
ColumnNumbers =
    (t : ℕ) (file table old : List ℕ) → rows_in column_page_width table ≤ most_column_pages
    → AcceptsOr in_column (rows_in column_page_width table) (whole_column t file table old)

-- no pages are accepted, whatever the type; words that are no whole row are not looked at
unfoldable pub NoPages : Type 0
NoPages = (t : ℕ) (file table old : List ℕ) → length table < column_page_width → whole_column t file table old ≡ record { outcome = accept_all 0; words = old }

-- too many are refused whatever they are, and nothing is decoded
unfoldable pub TooManyPages : Type 0
TooManyPages =
    (t : ℕ) (file table old : List ℕ) → most_column_pages < rows_in column_page_width table
    → whole_column t file table old ≡ record { outcome = refuse_at 10 most_column_pages; words = old }
