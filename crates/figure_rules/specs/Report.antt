-- A report over page lists under one header: each column's pages, elements, stored sizes and pages with a checksum.
use Rattle.std.specs.Prelude.{ℕ, ◌+◌, ◌/◌, ◌^◌, ◌≤◌, List, [], ◌∷◌, Bool, true, ◌≡◌, length, ltb, leb}
use Rattle.numbers.specs.Choice.{pick, both}
use Rattle.numbers.specs.Rows.{flat}
use Rattle.outcome.specs.Outcome.{Outcome, accepted_with}
use Rattle.header.specs.Beside.{Beside, read, refusal}
use Rattle.rows.specs.Words.{bit}
use Rattle.rows.specs.declared.PageRow.{PageRow}
use Rattle.pages.specs.Pages.{elements_of}
use Rattle.figure_rules.specs.declared.ListCounts.{ListCounts}
use Rattle.figure_rules.specs.Answer.{ReportAnswer}
use Rattle.std.specs.Prelude.{Ok, Err}

-- the answer in document 01's terms. Its counts are the lists accepted and refused so far, handed over whatever the answer

abbrev pub counts_of : ListCounts → List ℕ
counts_of c = c.accepted ∷ c.refused ∷ []

abbrev pub outcome_of : ReportAnswer → Outcome
outcome_of (Ok c) = accepted_with (counts_of c)
outcome_of (Err why) = record { envelope = why.envelope; number = why.number; counts = counts_of why.lists }

-- a refusal names an envelope; envelopes are numbered from 1
abbrev pub Named : ReportAnswer → Type 0
Named (Ok c) = Unit {0}
Named (Err why) = 1 ≤ why.envelope

-- two answers that say the same are the same
unfoldable pub OutcomeTells : Type 0
OutcomeTells = (a b : ReportAnswer) → Named a → Named b → outcome_of a ≡ outcome_of b → a ≡ b

-- the figures of a column's pages

unfoldable pub sizes_of : List PageRow → ℕ
sizes_of [] = 0
sizes_of (p ∷ ps) = p.size + sizes_of ps

unfoldable pub checksums_of : List PageRow → ℕ
checksums_of [] = 0
checksums_of (p ∷ ps) = bit p.checksum + checksums_of ps

abbrev pub figure_width : ℕ
figure_width = 4

abbrev pub figures_of : List PageRow → List ℕ
figures_of ps = length ps ∷ elements_of ps ∷ sizes_of ps ∷ checksums_of ps ∷ []

-- the figures of a page list, column by column
abbrev pub list_figures : List (List PageRow) → List ℕ
list_figures = flat figures_of

-- figures added to the words of a report, each to its own; words beyond them stay
unfoldable pub added : List ℕ → List ℕ → List ℕ
added [] old = old
added (x ∷ xs) [] = []
added (x ∷ xs) (y ∷ ys) = (y + x) ∷ added xs ys

-- none of the sums passes 64 bits
unfoldable pub sums_fit : List ℕ → List ℕ → Bool
sums_fit [] old = true
sums_fit (x ∷ xs) [] = true
sums_fit (x ∷ xs) (y ∷ ys) = both (ltb (y + x) (2 ^ 64)) (sums_fit xs ys)

-- a report of n words has a row for each of so many columns
abbrev pub rows_for : ℕ → ℕ → Bool
rows_for n columns = leb columns (n / figure_width)

-- what a call answers, and the report that it leaves
pub record Report : Type 0 where
  pub answer : ReportAnswer
  pub words : List ℕ

-- a refusal that is counted nowhere, in the page list's envelope
abbrev pub not_counted : ℕ → ListCounts → List ℕ → Report
not_counted r counts old = record { answer = Err (record { envelope = 3; number = r; lists = counts }); words = old }

-- one list more, accepted or refused

abbrev pub one_accepted : ListCounts → ListCounts
one_accepted c = record { accepted = c.accepted + 1; refused = c.refused }

abbrev pub one_refused : ListCounts → ListCounts
one_refused c = record { accepted = c.accepted; refused = c.refused + 1 }

-- the figures of so many columns: too few rows are 20, then a figure past 64 bits 10, else they are added
unfoldable pub placed : ℕ → List ℕ → ListCounts → List ℕ → Report
placed columns figures counts old =
    pick (rows_for (length old) columns)
    (pick (sums_fit figures old)
    (record { answer = Ok (one_accepted counts); words = added figures old })
    (not_counted 10 counts old))
    (not_counted 20 counts old)

-- a page list that was read beside its header; one that the reader refuses adds nothing and is counted apart
unfoldable pub taken : Beside (List (List PageRow)) → ListCounts → List ℕ → Report
taken (read pss) counts old = placed (length pss) (list_figures pss) counts old
taken (refusal k f) counts old = record { answer = Err (record { envelope = k; number = f.number; lists = one_refused counts }); words = old }

abbrev pub most_lists : ℕ
most_lists = 1024

-- the whole call: a list after 1,024 lists is refused 10 before anything else
unfoldable pub reported : Beside (List (List PageRow)) → ListCounts → List ℕ → Report
reported x counts old = pick (ltb (counts.accepted + counts.refused) most_lists) (taken x counts old) (not_counted 10 counts old)
