-- Reports by calls: one for each list in turn, as a host makes them.
use Rattle.std.specs.Prelude.{ℕ, ◌+◌, ◌*◌, ◌/◌, ◌≤◌, ◌<◌, List, [], ◌∷◌, ◌≡◌, length, get_or}
use Rattle.numbers.specs.Choice.{pick}
use Rattle.header.specs.Beside.{Beside, read, refusal}
use Rattle.rows.specs.declared.PageRow.{PageRow}
use Rattle.pages.specs.Pages.{elements_of}
use Rattle.page_list.specs.Tables.{page_list_beside}
use Rattle.figure_rules.specs.Answer.{ReportAnswer}
use Rattle.figure_rules.specs.Report.{sizes_of, checksums_of, figure_width, rows_for, most_lists, reported}
use Rattle.figure_sums.specs.Orders.{Given, read_beside, State, fresh, counts_in, in_order, total, Sums, Permutation}

-- a call for a list: its answer, and the words of the report after it, as the contract of report_page_list has them
pub record ReportCall (header : List ℕ) (g : Given) (before : State) (r : ReportAnswer) (words : List ℕ) : Type 0 where
  pub answers : r ≡ (reported (page_list_beside header g.list g.entries g.file) before.counts before.words).answer
  pub leaves : words ≡ (reported (page_list_beside header g.list g.entries g.file) before.counts before.words).words

-- such calls for the lists in turn, each with the counts of the answer before it, on the words that the call before it left
pub data ReportCalls (header : List ℕ) : List Given → State → State → Type 0 where
  finished : {st : State} → ReportCalls header [] st st
  goes_on : {g : Given} {gs : List Given} {before after : State} {r : ReportAnswer} {words : List ℕ}
      → ReportCall header g before r words → ReportCalls header gs (record { counts = counts_in r; words = words }) after
      → ReportCalls header (g ∷ gs) before after

-- such calls can be made for any lists, from zeros
unfoldable pub CallsCanBeMade : Type 0
CallsCanBeMade = (header : List ℕ) (n : ℕ) (gs : List Given) → ReportCalls header gs (fresh n) (in_order header gs (fresh n))

-- and however they are made, they leave nothing else
unfoldable pub CallsInOrder : Type 0
CallsInOrder = (header : List ℕ) (n : ℕ) (gs : List Given) (st : State) → ReportCalls header gs (fresh n) st → st ≡ in_order header gs (fresh n)

-- up to 1,024 calls leave the exact sums
unfoldable pub SumsOfCalls : Type 0
SumsOfCalls = (header : List ℕ) (n : ℕ) (gs : List Given) (st : State) → length gs ≤ most_lists → ReportCalls header gs (fresh n) st → Sums header n gs st

-- the same in any order of the lists
unfoldable pub CallsInAnyOrder : Type 0
CallsInAnyOrder =
    (header : List ℕ) (n : ℕ) (gs hs : List Given) (st other : State) → length gs ≤ most_lists → Permutation gs hs
    → ReportCalls header gs (fresh n) st → ReportCalls header hs (fresh n) other → st ≡ other

-- a list's pages of column c, where it is accepted and a report of n words has rows enough
unfoldable pub pages_taken : ℕ → ℕ → Beside (List (List PageRow)) → List PageRow
pages_taken n c (read pss) = pick (rows_for n (length pss)) (get_or pss c []) []
pages_taken n c (refusal k f) = []

-- row c of a report: the pages of column c, their elements, their stored sizes and those with a checksum, over all lists
pub record ColumnSums (header : List ℕ) (n : ℕ) (gs : List Given) (c : ℕ) (words : List ℕ) : Type 0 where
  pub pages : get_or words (figure_width * c) 0 ≡ total (λ g. length (pages_taken n c (read_beside header g))) gs
  pub elements : get_or words (figure_width * c + 1) 0 ≡ total (λ g. elements_of (pages_taken n c (read_beside header g))) gs
  pub sizes : get_or words (figure_width * c + 2) 0 ≡ total (λ g. sizes_of (pages_taken n c (read_beside header g))) gs
  pub checksums : get_or words (figure_width * c + 3) 0 ≡ total (λ g. checksums_of (pages_taken n c (read_beside header g))) gs

unfoldable pub FiguresByColumn : Type 0
FiguresByColumn =
    (header : List ℕ) (n : ℕ) (gs : List Given) (st : State) → length gs ≤ most_lists → ReportCalls header gs (fresh n) st
    → (c : ℕ) → c < n / figure_width → ColumnSums header n gs c st.words
