-- Which refusals a call on a report can give, what each counts, and which words of the report stay.
use Rattle.std.specs.Prelude.{ℕ, ◌*◌, List, [], ◌∷◌, Bool, true, ◌≡◌, length, drop}
use Rattle.wire.specs.Reading.{found}
use Rattle.wire.specs.declared.Fault.{Fault}
use Rattle.header.specs.Header.{Header}
use Rattle.header.specs.Beside.{Beside, read, refusal}
use Rattle.header.specs.Tables.{header_of}
use Rattle.rows.specs.declared.PageRow.{PageRow}
use Rattle.page_list.specs.Tables.{page_list_beside}
use Rattle.refusals.specs.Refusals.{among, in_header, in_page_list, of_beside, Told}
use Rattle.figure_rules.specs.declared.ListCounts.{ListCounts}
use Rattle.figure_rules.specs.Report.{outcome_of, Named, figure_width, list_figures, added, Report, not_counted, one_accepted, one_refused, reported}
use Rattle.std.specs.Prelude.{Ok, Err}

-- the report's own numbers: 10 for a list too many or a figure past 64 bits, 20 for too few rows
abbrev pub in_report : List ℕ
in_report = 10 ∷ 20 ∷ []

-- All that a call can leave, by what its reader found: a list that was read is added; one that is refused, by its header's envelope or its own, is one
-- more refused; the report's own refusals are counted nowhere. Words change only where a list is added.
pub data Left (x : Beside (List (List PageRow))) (counts : ListCounts) (old : List ℕ) : Report → Type 0 where
  adds : {pss : List (List PageRow)} → x ≡ read pss → Left x counts old (record { answer = Ok (one_accepted counts); words = added (list_figures pss) old })
  header_refused : {f : Fault} → x ≡ refusal 1 f → among in_header f.number ≡ true → Left x counts old (record { answer = Err (record { envelope = 1; number = f.number; lists = one_refused counts }); words = old })
  list_refused : {f : Fault} → x ≡ refusal 3 f → among in_page_list f.number ≡ true → Left x counts old (record { answer = Err (record { envelope = 3; number = f.number; lists = one_refused counts }); words = old })
  turned_away : {r : ℕ} → among in_report r ≡ true → Left x counts old (not_counted r counts old)

unfoldable pub ReportLeft : Type 0
ReportLeft =
    (e l : List ℕ) (entries file : ℕ) (counts : ListCounts) (old : List ℕ)
    → Left (page_list_beside e l entries file) counts old (reported (page_list_beside e l entries file) counts old)

-- the refusals of a call on a report: the reader's, and 10 and 20 of its own. These are the numbers of the reader with a lent table, whose room is 20 too
abbrev pub of_report : ℕ → ℕ → Bool
of_report = of_beside 3 in_page_list

-- there are no others, and the one number of an outcome tells them
unfoldable pub ReportRefusals : Type 0
ReportRefusals =
    (e l : List ℕ) (entries file : ℕ) (counts : ListCounts) (old : List ℕ)
    → Told of_report (outcome_of (reported (page_list_beside e l entries file) counts old).answer)

-- a refusal names an envelope, so that an outcome tells the whole answer
unfoldable pub ReportNamed : Type 0
ReportNamed =
    (e l : List ℕ) (entries file : ℕ) (counts : ListCounts) (old : List ℕ) → Named (reported (page_list_beside e l entries file) counts old).answer

-- the words of the rows of a header's columns
abbrev pub row_words : Header → ℕ
row_words h = figure_width * length h.lists.columns

-- What stays of a report: its length; with a refusal every word; and always the words beyond the rows of the header's columns.
pub record Stays (header old : List ℕ) (r : Report) : Type 0 where
  pub long : length r.words ≡ length old
  pub refused : (k n : ℕ) (c : ListCounts) → r.answer ≡ Err (record { envelope = k; number = n; lists = c }) → r.words ≡ old
  pub beyond : (h : Header) (p : ℕ) → header_of header ≡ found h p → drop (row_words h) r.words ≡ drop (row_words h) old

unfoldable pub ReportStays : Type 0
ReportStays =
    (e l : List ℕ) (entries file : ℕ) (counts : ListCounts) (old : List ℕ) → Stays e old (reported (page_list_beside e l entries file) counts old)
