-- A column's pages, decoded in turn by one call: what it answers, and what it leaves in the lent words.
use Rattle.std.specs.Prelude.{ℕ, suc, ◌+◌, List, [], ◌∷◌, Bool, ◌≡◌, length, get_or, take, drop, leb, eqb, Ok, Err}
use Rattle.numbers.specs.Choice.{pick}
use Rattle.numbers.specs.Numbers.{trailer}
use Rattle.outcome.specs.Outcome.{Outcome, accepted_with, is_accepted}
use Rattle.rows.specs.Tables.{rows_in, row_words, first_rows}
use Rattle.locator.specs.Locator.{in_file}
use Rattle.page_rules.specs.Page.{unless, asked, asks, decode_outcome, decoded}
use Rattle.column_rules.specs.declared.ColumnPage.{ColumnPage}
use Rattle.column_rules.specs.Answer.{ColumnAnswer}

-- the count of a column call: its pages, or the index of the refused page. Here, and in no other call, a refusal has a count

abbrev pub accept_all : ℕ → Outcome
accept_all pages = accepted_with (pages ∷ [])

abbrev pub refuse_at : ℕ → ℕ → Outcome
refuse_at k i = record { envelope = 4; number = k; counts = i ∷ [] }

abbrev pub outcome_of : ColumnAnswer → Outcome
outcome_of (Ok pages) = accept_all pages
outcome_of (Err why) = refuse_at why.number why.page

-- an answer is told by what it says
unfoldable pub OutcomeTells : Type 0
OutcomeTells = (a b : ColumnAnswer) → outcome_of a ≡ outcome_of b → a ≡ b

-- the rows of a lent table of pages: offset and size in the lent part of a file, elements, checksum or not

abbrev pub column_page_width : ℕ
column_page_width = 4

abbrev pub column_page_of : List ℕ → ColumnPage
column_page_of ws = record { offset = get_or ws 0 0; size = get_or ws 1 0; elements = get_or ws 2 0; checksum = asks (get_or ws 3 0) }

abbrev pub column_page : List ℕ → ℕ → ColumnPage
column_page table i = column_page_of (row_words column_page_width table i)

abbrev pub column_pages : List ℕ → List ColumnPage
column_pages table = first_rows column_page table (rows_in column_page_width table)

-- a page's bytes with those of its checksum: whether all of them are in the file part, by the verdict that page lists have, and which they are

abbrev pub inside : List ℕ → ColumnPage → Bool
inside file p = eqb (in_file (length file) p.size (trailer p.checksum) p.offset) 0

abbrev pub page_bytes : List ℕ → ColumnPage → List ℕ
page_bytes file p = take (p.size + trailer p.checksum) (drop p.offset file)

-- one page of type t, to so many lent words from `start` on: 23, 10, 18, then what the single call answers on its bytes
unfoldable pub page_outcome : ℕ → List ℕ → ColumnPage → ℕ → ℕ → Outcome
page_outcome t file p words start =
    asked t p.elements
    (unless (inside file p) 18
    (decode_outcome t p.elements p.checksum (page_bytes file p) words start))

-- the lent words after that page: as the single call leaves them, which is made where there are bytes to hand to it
unfoldable pub page_decoded : ℕ → List ℕ → ColumnPage → List ℕ → ℕ → List ℕ
page_decoded t file p old start = pick (inside file p) (decoded t p.elements p.checksum (page_bytes file p) old start) old

-- what a call on a column says, and the lent words that it leaves
pub record Decoding : Type 0 where
  pub outcome : Outcome
  pub words : List ℕ

-- the index of the refused page, else the number of pages
abbrev pub index_of : Decoding → ℕ
index_of d = get_or d.outcome.counts 0 0

-- the pages from number i on, each to the words from where the one before it ended, up to the first that is refused; what was decoded before
-- it stays
unfoldable pub in_turn : ℕ → List ℕ → List ColumnPage → ℕ → ℕ → List ℕ → Decoding
in_turn t file [] i start old = record { outcome = accept_all i; words = old }
in_turn t file (p ∷ ps) i start old =
    pick (is_accepted (page_outcome t file p (length old) start))
    (in_turn t file ps (suc i) (start + p.elements) (page_decoded t file p old start))
    (record { outcome = refuse_at (page_outcome t file p (length old) start).number i; words = page_decoded t file p old start })

-- the most pages in one call
abbrev pub most_column_pages : ℕ
most_column_pages = 256

-- the whole call: too many pages are refused before anything else
unfoldable pub whole_column : ℕ → List ℕ → List ℕ → List ℕ → Decoding
whole_column t file table old =
    pick (leb (rows_in column_page_width table) most_column_pages)
    (in_turn t file (column_pages table) 0 0 old)
    (record { outcome = refuse_at 10 most_column_pages; words = old })
