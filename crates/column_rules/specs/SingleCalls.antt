-- Calls for one page at a time, made in turn up to the first refusal, as a host makes them that has no call for a column.
use Rattle.std.specs.Prelude.{ℕ, suc, ◌+◌, ◌≤◌, List, [], ◌∷◌, true, false, ◌≡◌, length}
use Rattle.outcome.specs.Outcome.{code_of}
use Rattle.rows.specs.Tables.{rows_in}
use Rattle.page_rules.specs.Page.{refuse, asked, decode_outcome, decoded}
use Rattle.column_rules.specs.declared.ColumnPage.{ColumnPage}
use Rattle.column_rules.specs.Column.{column_page_width, most_column_pages, column_pages, inside, page_bytes, Decoding, index_of, whole_column}

-- a single call for a page whose bytes are in the file part: the number that it answers, 0 for acceptance, and the lent words before and after
-- it, as the contract of decode_page has them
pub record SingleCall (t : ℕ) (file : List ℕ) (p : ColumnPage) (start : ℕ) (old new : List ℕ) (r : ℕ) : Type 0 where
  pub is_inside : inside file p ≡ true
  pub answers : r ≡ code_of (decode_outcome t p.elements p.checksum (page_bytes file p) (length old) start)
  pub leaves : new ≡ decoded t p.elements p.checksum (page_bytes file p) old start

-- such calls for the pages from number i on, each to the words that the one before left and from where it ended; then the number that the last
-- one answered, the index of the refused page or else the number of pages, and the words that it left
pub data SingleCalls (t : ℕ) (file : List ℕ) : List ColumnPage → ℕ → ℕ → List ℕ → ℕ → ℕ → List ℕ → Type 0 where
  finished : {i start : ℕ} {old : List ℕ} → SingleCalls t file [] i start old 0 i old
  goes_on : {p : ColumnPage} {ps : List ColumnPage} {i start r k : ℕ} {old next new : List ℕ}
      → SingleCall t file p start old next 0 → SingleCalls t file ps (suc i) (start + p.elements) next r k new
      → SingleCalls t file (p ∷ ps) i start old r k new
  stops : {p : ColumnPage} {ps : List ColumnPage} {i start r : ℕ} {old new : List ℕ}
      → SingleCall t file p start old new (suc r)
      → SingleCalls t file (p ∷ ps) i start old (suc r) i new
  -- a page whose bytes are not all in the file part: there is nothing to hand to a single call, and the rule alone answers, 23, 10, else 18
  outside : {p : ColumnPage} {ps : List ColumnPage} {i start : ℕ} {old : List ℕ}
      → inside file p ≡ false
      → SingleCalls t file (p ∷ ps) i start old (code_of (asked t p.elements (refuse 18))) i old

-- such calls can be made for the pages of any table, and end with what the one call answers and leaves
unfoldable pub CallsInTurn : Type 0
CallsInTurn =
    (t : ℕ) (file table old : List ℕ) → rows_in column_page_width table ≤ most_column_pages
    → let d : Decoding = whole_column t file table old in
    SingleCalls t file (column_pages table) 0 0 old (code_of d.outcome) (index_of d) d.words

-- and however they are made, they end with nothing else
unfoldable pub OneCallIsSingleCalls : Type 0
OneCallIsSingleCalls =
    (t : ℕ) (file table old : List ℕ) (r k : ℕ) (new : List ℕ) → rows_in column_page_width table ≤ most_column_pages
    → SingleCalls t file (column_pages table) 0 0 old r k new
    → let d : Decoding = whole_column t file table old in
    (r ≡ code_of d.outcome) × (k ≡ index_of d) × (new ≡ d.words)
