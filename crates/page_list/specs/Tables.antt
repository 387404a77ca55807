-- What a page list's reader answers, and what its lent table then holds.
use Rattle.std.specs.Prelude.{ℕ, ◌/◌, List, [], ◌∷◌, Bool, ◌≡◌, length, leb}
use Rattle.numbers.specs.Choice.{pick}
use Rattle.numbers.specs.Rows.{flat, over}
use Rattle.outcome.specs.Outcome.{Outcome, accepted_with, refused_in}
use Rattle.header.specs.Tables.{header_of}
use Rattle.rows.specs.Words.{page_width, page_words}
use Rattle.header.specs.Beside.{Beside, read, refusal, beside}
use Rattle.column_pages.specs.ColumnPages.{pages_of}
use Rattle.page_list.specs.PageList.{page_list_of}
use Rattle.rows.specs.declared.PageRow.{PageRow}
use Rattle.page_list.specs.Answer.{PageListAnswer}
use Rattle.std.specs.Prelude.{Ok, Err}

-- the page list read beside its header: the header's refusal first
unfoldable pub page_list_beside : List ℕ → List ℕ → ℕ → ℕ → Beside (List (List PageRow))
page_list_beside header list entries file = beside 3 (λ h. page_list_of h entries file list) (header_of header)

-- the words of the table: the pages of each column, column by column
abbrev pub page_table : List (List PageRow) → List ℕ
page_table = flat (flat page_words)

-- a table of n words has room for the rows
abbrev pub room_for : ℕ → List (List PageRow) → Bool
room_for n pss = leb (pages_of pss) (n / page_width)

-- the whole answer, for a lent table of n words
unfoldable pub answer : ℕ → Beside (List (List PageRow)) → PageListAnswer
answer n (read pss) = pick (room_for n pss) (Ok (pages_of pss)) (Err (record { envelope = 3; number = 20 }))
answer n (refusal k f) = Err (record { envelope = k; number = f.number })

-- the answer in document 01's terms: the envelope and the number of a refusal, and the count of pages
abbrev pub outcome_of : PageListAnswer → Outcome
outcome_of (Ok pages) = accepted_with (pages ∷ [])
outcome_of (Err why) = refused_in why.envelope why.number 1

-- the outcome that is due, for a lent table of n words
abbrev pub reported : ℕ → Beside (List (List PageRow)) → Outcome
reported n x = outcome_of (answer n x)

-- the lent table after the call: the words in front where the page list is accepted, else as it was
unfoldable pub written : ℕ → List ℕ → Beside (List (List PageRow)) → List ℕ
written n old (read pss) = pick (room_for n pss) (over (page_table pss) old) old
written n old (refusal k f) = old

-- all that a call leaves, for a page list read beside its header and a lent table
pub record Answered (x : Beside (List (List PageRow))) (p₀ p : List ℕ) (r : PageListAnswer) : Type 0 where
  pub answers : r ≡ answer (length p₀) x
  pub reports : outcome_of r ≡ reported (length p₀) x
  pub pages_are : p ≡ written (length p₀) p₀ x
