-- The pages of each column, one column after the other.
use Prim.Native.Nat.{ℕ, ◌+◌, ◌*◌, ◌/◌, ◌-◌, ◌%◌, ◌^◌, ◌≤◌, ◌<◌}
use mathlib.Core.List.{List, [], ◌∷◌, map}
use mathlib.Core.Bool.{Bool, true}
use mathlib.Core.Path.{◌≡◌, refl, sym, ap, subst, ◌∙◌}
use native.Mathlib.Numerals.{add-one}
use native.Mathlib.Omega.{arith}
use lib.Dec.{eqb}
use lib.ListN.{length, get_or, set, take, drop, replicate, length-replicate, length-set}
use Rattle.numbers.specs.Rows.{over}
use Rattle.rows.specs.Words.{most_columns}
use Rattle.rows.specs.Tables.{column_row, first_rows}
use Rattle.rows.specs.declared.ColumnRow.{ColumnRow}
use Rattle.rows.proofs.FirstRows.{rows_length}
use Rattle.rows.proofs.TableLaws.{Holds, holds_none, holds_set, flat_one}
use Rattle.pages.specs.Pages.{running_total}
use Rattle.column_pages.specs.Answers.{bits_in}
use Rattle.column_pages.proofs.ColumnLaws.{bits_at}
use Rattle.writing.specs.Piece.{list_piece, pieces}
use Rattle.writing.specs.Rows.{page_rows_in}
use Rattle.writing.specs.PageList.{by_column, in_column_order, page_item, column_pages_item}
use Rattle.writing.proofs.Items.{item, Passed, passed_none, passed_more, passed_refused, passed_all}
use Rattle.page_list_check.specs.Runs.{leading, column_at}
use Rattle.page_list_check.specs.Checks.{elements_in, Summed, AllSummed}
use Rattle.page_list_check.specs.declared.page.ColumnSum.{ColumnSum}
use Rattle.page_list_check.specs.declared.columns.ColumnSums.{ColumnSums}
use Rattle.page_list_check.proofs.Runs.{by_column_lem, Reached, reached_none, reached_more, run_fits, run_rows}
use Rattle.page_list_check.proofs.Order.{Ordered, ordered_none, ordered_run, ordered_end}

-- nothing is refused of the first i of n columns, which have the rows before row `start`, and `sums` has the elements of each in front of zeros
pub record Checked (file : ℕ) (columns : List ℕ) (n : ℕ) (table : List ℕ) (i start : ℕ) (sums : List ℕ) : Type 0 where
  pub passes : Passed (column_pages_item file (bits_in columns n)) column_at table n i
  pub reached : Reached table n i start
  pub holds : Holds (λ _ ps. elements_in ps ∷ []) (first_rows column_at table i) (replicate most_columns 0) sums

module _ {file : ℕ} {columns : List ℕ} {n : ℕ} {table : List ℕ} where
  pub checked_none : in_column_order n 0 (page_rows_in table) ≡ true → Checked file columns n table 0 0 (replicate most_columns 0)
  unfolding first_rows
  checked_none e = record { passes = passed_none (column_pages_item file (bits_in columns n)) column_at table n; reached = reached_none table n e; holds = holds_none }

  pub checked_all : {i start : ℕ} {sums : List ℕ} {ordered : Bool} → Checked file columns n table i start sums → n ≤ i
      → AllSummed (pieces (column_pages_item file (bits_in columns n)) [] (by_column 0 n (page_rows_in table))).number (by_column 0 n (page_rows_in table)) (record { number = 0; ordered = ordered; elements = sums })
  checked_all {i} m h =
      let same : i ≡ n = omega (arith, m.passes.most) in
      rw (by_column_lem table n)
      (record {
        number_is = passed_all (column_pages_item file (bits_in columns n)) column_at table m.passes h;
        elements_are = λ _. m.holds.rows ∙ ap (λ (l : List ℕ). over l (replicate most_columns 0)) (flat_one elements_in 0 (first_rows column_at table i) ∙ ap (λ (k : ℕ). map elements_in (first_rows column_at table k)) same);
      })

  module _ {i start : ℕ} {sums : List ℕ} (m : Checked file columns n table i start sums) (h : i < n)
      {e : ℕ} (stop : e ≡ start + leading i (drop start (page_rows_in table)))
      {part : List ℕ} (cut : part ≡ take (5 * e - 5 * start) (drop (5 * start) table))
      {row : ColumnRow} (its : row ≡ column_row columns i) {r : ColumnSum} (told : Summed (list_piece (running_total start) (page_item file (row.bits % 2 ^ 16)) (page_rows_in part)).number (page_rows_in part) r) where
    its_rows : page_rows_in part ≡ column_at table i
    its_rows = ap page_rows_in cut ∙ run_rows table m.reached stop

    its_bits : row.bits % 2 ^ 16 ≡ get_or (bits_in columns n) (length (first_rows column_at table i)) 0
    its_bits = ap (λ (c : ColumnRow). c.bits % 2 ^ 16) its ∙ sym (ap (λ (k : ℕ). get_or (bits_in columns n) k 0) (rows_length column_at table i) ∙ bits_at columns n i h)

    number_is_lem : r.number ≡ (item (column_pages_item file (bits_in columns n)) column_at table i).number
    number_is_lem = told.number_is ∙ (λ j. (list_piece (running_total (sym m.reached.before j)) (page_item file (its_bits j)) (its_rows j)).number)

    pub checked_refused : (r.number ≡ 0 → ⊥) → {ordered : Bool} {elements : List ℕ}
        → AllSummed (pieces (column_pages_item file (bits_in columns n)) [] (by_column 0 n (page_rows_in table))).number (by_column 0 n (page_rows_in table)) (record { number = r.number; ordered = ordered; elements = elements })
    checked_refused bad =
        rw (by_column_lem table n)
        (record { number_is = passed_refused (column_pages_item file (bits_in columns n)) column_at table m.passes h number_is_lem bad; elements_are = λ z. absurd (bad z) })

    pub checked_more : r.number ≡ 0 → i < length sums → Checked file columns n table (i + 1) e (set sums i r.elements)
    unfolding first_rows
    checked_more good inside =
        let next = add-one i in
        let held = holds_set (column_at table i) (λ _ _. refl) (ap (λ (k : ℕ). k ∷ []) (sym (told.elements_are good ∙ ap elements_in its_rows))) m.holds (rows_length column_at table i) inside in
        record {
          passes = passed_more (column_pages_item file (bits_in columns n)) column_at table m.passes h number_is_lem good;
          reached = reached_more table m.reached stop;
          holds = subst (λ (k : ℕ). Holds (λ _ ps. elements_in ps ∷ []) (first_rows column_at table k) (replicate most_columns 0) (set sums i r.elements)) (sym next) held;
        }

-- the same where the rows stand in order; what is left of them decides whether they do
pub record Swept (file : ℕ) (columns : List ℕ) (n : ℕ) (table : List ℕ) (i start : ℕ) (sums : List ℕ) : Type 0 where
  pub most : i ≤ n
  pub inside : start ≤ length table / 5
  pub long : length sums ≡ most_columns
  pub ordered : Ordered table n start i
  pub checked : in_column_order n 0 (page_rows_in table) ≡ true → Checked file columns n table i start sums

-- what is asked of the code
abbrev pub Told : ℕ → List ℕ → ℕ → List ℕ → ColumnSums → Type 0
Told file columns n table r =
    (r.number ≡ 0 → r.ordered ≡ in_column_order n 0 (page_rows_in table))
    × (in_column_order n 0 (page_rows_in table) ≡ true → AllSummed (pieces (column_pages_item file (bits_in columns n)) [] (by_column 0 n (page_rows_in table))).number (by_column 0 n (page_rows_in table)) r)

module _ {file : ℕ} {columns : List ℕ} {n : ℕ} {table : List ℕ} where
  pub swept_none : Swept file columns n table 0 0 (replicate most_columns 0)
  swept_none = record { most = omega arith; inside = omega arith; long = length-replicate {A = ℕ} most_columns 0; ordered = ordered_none table; checked = checked_none }

  pub swept_all : {i start : ℕ} {sums : List ℕ} → Swept file columns n table i start sums → n ≤ i → Told file columns n table (record { number = 0; ordered = eqb start (length table / 5); elements = sums })
  swept_all m h = (λ _. ordered_end table m.ordered (omega (arith, m.most)) m.inside, λ order. checked_all (m.checked order) h)

  module _ {i start : ℕ} {sums : List ℕ} (m : Swept file columns n table i start sums) (h : i < n)
      {e : ℕ} (stop : e ≡ start + leading i (drop start (page_rows_in table)))
      {part : List ℕ} (cut : part ≡ take (5 * e - 5 * start) (drop (5 * start) table))
      {row : ColumnRow} (its : row ≡ column_row columns i) {r : ColumnSum} (told : Summed (list_piece (running_total start) (page_item file (row.bits % 2 ^ 16)) (page_rows_in part)).number (page_rows_in part) r) where
    pub swept_refused : (r.number ≡ 0 → ⊥) → {ordered : Bool} {elements : List ℕ} → Told file columns n table (record { number = r.number; ordered = ordered; elements = elements })
    swept_refused bad = (λ z. absurd (bad z), λ order. checked_refused (m.checked order) h stop cut its told bad)

    pub swept_more : r.number ≡ 0 → n ≤ most_columns → Swept file columns n table (i + 1) e (set sums i r.elements)
    swept_more good few =
        record {
          most = omega arith;
          inside = (run_fits table i start e m.inside stop).1;
          long = length-set sums i r.elements ∙ m.long;
          ordered = ordered_run table m.ordered h stop;
          checked = λ order. checked_more (m.checked order) h stop cut its told good (omega (arith, m.long));
        }
