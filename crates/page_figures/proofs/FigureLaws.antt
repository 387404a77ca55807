-- From the verdict on a page list to the answer on its figures, and to the lent rows.
use Prim.Native.Nat.{ℕ, ◌*◌, ◌/◌, ◌≤◌, ◌<◌}
use mathlib.Core.Path.{◌≡◌, refl, sym, ap, ◌∙◌}
use mathlib.Core.Bool.{Bool, true}
use mathlib.Core.List.{List, [], ◌∷◌}
use native.Mathlib.Omega.{arith}
use borrow.Author.Tests.{le-leb, lt-leb, leb-true}
use lib.ListN.{length, take}
use Rattle.numbers.specs.Rows.{over}
use Rattle.wire.specs.declared.Fault.{Fault}
use Rattle.wire.specs.Reading.{Step, found, refused, accepted, rows_of}
use Rattle.outcome.specs.Outcome.{accepted_with}
use Rattle.header.specs.Beside.{Beside, read, refusal}
use Rattle.rows.specs.declared.PageRow.{PageRow}
use Rattle.column_pages.specs.ColumnPages.{payload}
use Rattle.column_pages.specs.Answers.{bits_in}
use Rattle.column_pages.proofs.ColumnLaws.{bits_length}
use Rattle.page_list.specs.Judged.{listed}
use Rattle.page_list.specs.declared.Judged.{Judged}
use Rattle.figure_rules.specs.Report.{figure_width, list_figures}
use Rattle.figure_rules.proofs.Accepted.{payload_small}
use Rattle.page_figures.specs.Answers.{answer, written, Answered}
use Rattle.std.specs.Prelude.{Ok, Err}

-- an accepted payload has an item for each column
payload_columns : (file : ℕ) (table : List ℕ) (n : ℕ) (strict : Bool) (s : List ℕ) → accepted (payload file (bits_in table n) strict s 4) ≡ true → length (rows_of (payload file (bits_in table n) strict s 4)) ≡ n
payload_columns file table n strict s a = by (payload file (bits_in table n) strict s 4) refl a
  where
    by : (x : Step (List (List PageRow))) → payload file (bits_in table n) strict s 4 ≡ x → accepted x ≡ true → length (rows_of x) ≡ n
    by (found pss p) e h = (payload_small strict file (bits_in table n) s 4 e).many ∙ bits_length table n
    by (refused f) e h = absurd (omega (arith, leb-true 1 0 h))

-- a refusal changes no row
pub figures_refused : {x : Beside (List (List PageRow))} {k : ℕ} {f : Fault} (old : List ℕ) → x ≡ refusal k f → Answered x old old (Err (record { envelope = k; number = f.number }))
unfolding answer written
figures_refused old e = record { answers = rw e; reports = rw e; figures_are = rw e }

-- rows that are too few, and enough of them
module _ (file : ℕ) (table : List ℕ) (n : ℕ) (e : List ℕ) (j : Judged) (a : accepted (listed file (bits_in table n) e j) ≡ true) (old : List ℕ) where
  many : length (rows_of (listed file (bits_in table n) e j)) ≡ n
  many = payload_columns file table n j.strict (take j.stop e) a

  pub figures_short : length old / figure_width < n → Answered (read (rows_of (listed file (bits_in table n) e j))) old old (Err (record { envelope = 3; number = 20 }))
  unfolding answer written
  figures_short h =
      let c = many in
      let short = lt-leb (length (rows_of (listed file (bits_in table n) e j))) (length old / figure_width) (omega arith) in
      record { answers = rw short; reports = rw short; figures_are = rw short }

  module _ (h : n ≤ length old / figure_width) {s : List ℕ} (cut : s ≡ take j.stop e) where
    pub figures_ready : (accepted (payload file (bits_in table n) j.strict s 4) ≡ true) × (figure_width * n ≤ length old)
    figures_ready = (rw cut a, omega arith)

    pub figures_all : (after : List ℕ) → after ≡ over (list_figures (rows_of (payload file (bits_in table n) j.strict s 4))) old
        → Answered (read (rows_of (listed file (bits_in table n) e j))) old after (Ok n)
    unfolding answer written
    figures_all after stored =
        let c = many in
        let room = le-leb (length (rows_of (listed file (bits_in table n) e j))) (length old / figure_width) (omega arith) in
        record { answers = rw room (ap Ok (sym c)); reports = rw room (ap (λ (k : ℕ). accepted_with (k ∷ [])) (sym c)); figures_are = rw room (stored ∙ ap (λ (x : List ℕ). over (list_figures (rows_of (payload file (bits_in table n) j.strict x 4))) old) cut) }
