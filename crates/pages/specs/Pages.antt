-- Pages, and the list of the pages of one column.
use Rattle.std.specs.Prelude.{ℕ, ◌+◌, ◌/◌, ◌%◌, ◌^◌, List, [], ◌∷◌, Bool, ltb, leb, eqb}
use Rattle.numbers.specs.Numbers.{bytes_for, trailer}
use Rattle.wire.specs.Reading.{Step, Rule, ◌>>=◌, give, tested, unless}
use Rattle.locator.specs.Locator.{located}
use Rattle.frames.specs.Frames.{items, list_of}
use Rattle.frames.specs.declared.ListHead.{ListHead}
use Rattle.rows.specs.Words.{most_pages}
use Rattle.rows.specs.declared.PageRow.{PageRow}

-- a page's first word: bits 0 to 29 are the element count, bit 30 says that a checksum follows the page
abbrev pub elements_in : ℕ → ℕ
elements_in word = word % 2 ^ 30

-- its bit 30, where bit 31 is not set
abbrev pub checksum_in : ℕ → Bool
checksum_in word = eqb (word / 2 ^ 30) 1

-- a verdict on that word: bit 31 is not set
abbrev pub page_word : ℕ → ℕ
page_word w = unless (ltb w (2 ^ 31)) 12 0

-- a page of column c, whose elements have so many bits: elements with two flags above them, then a locator; the stored size has no part
-- of a checksum behind the page, but that is inside the file too
unfoldable pub page : ℕ → ℕ → ℕ → Rule PageRow
page file c bits = do
  word ← tested 4 page_word
  located file (bytes_for (elements_in word) bits) (trailer (checksum_in word)) (λ size offset.
      give (record { column = record { 0 = c }; elements = elements_in word; checksum = checksum_in word; size = size; offset = offset }))

-- the pages of a column in a list at `list`, whose head was read
abbrev pub page_items : List ℕ → ℕ → ListHead → ℕ → ℕ → ℕ → Step (List PageRow)
page_items s list h file c bits = items list (λ _. page file c bits) h.count [] s h.start

-- a verdict on the count of pages of a column, after so many pages: the running total is at most 16,384
abbrev pub running_total : ℕ → ℕ → ℕ
running_total sum n = unless (leb (sum + n) most_pages) 10 0

-- the pages of column c, whose elements have so many bits, after `sum` pages of earlier columns
unfoldable pub pages : Bool → ℕ → ℕ → ℕ → ℕ → Rule (List PageRow)
pages strict file c bits sum = list_of strict (running_total sum) (λ _ _. page file c bits)

-- how many elements some pages have
unfoldable pub elements_of : List PageRow → ℕ
elements_of [] = 0
elements_of (p ∷ ps) = p.elements + elements_of ps
