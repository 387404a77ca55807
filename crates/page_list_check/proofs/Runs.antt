-- In a table whose rows stand in the order of their columns, the rows of each column are a run, one after that of the column before.
use Prim.Native.Nat.{ℕ, zero, suc, ◌+◌, ◌*◌, ◌/◌, ◌-◌, ◌≤◌, ◌<◌}
use mathlib.Core.List.{List, [], ◌∷◌, ◌++◌}
use mathlib.Core.Bool.{Bool, true, false}
use mathlib.Core.Path.{◌≡◌, refl, sym, ap, subst, ◌∙◌}
use native.Mathlib.Numerals.{add-one}
use native.Mathlib.Omega.{arith}
use lib.Dec.{ltb, leb, eqb}
use borrow.Author.Tests.{eqb-true, eqb-false, le-leb, lt-ltb, ne_eqb}
use lib.ListN.{length, take, drop, length-drop}
use lib.Seq.{length-take-le, drop-drop}
use Rattle.numbers.specs.Choice.{pick}
use Rattle.rows.specs.Tables.{first_rows}
use Rattle.rows.proofs.FirstRows.{rows_length}
use Rattle.writing.specs.Rows.{page_words_at, page_rows_in}
use Rattle.writing.specs.PageList.{of_column, by_column, in_column_order, pages_in}
use Rattle.writing.specs.declared.PageWords.{PageWords}
use Rattle.writing.proofs.ColumnOrder.{first_row, none_below}
use Rattle.page_list_check.specs.Runs.{leading, run, column_at}
use Rattle.page_list_check.proofs.Parts.{part_rows}

pub leading_few : (c : ℕ) (rows : List PageWords) → leading c rows ≤ length rows
unfolding leading
leading_few c [] = omega arith
leading_few c (p ∷ ps) = by (eqb p.column c) (leading_few c ps)
  where
    by : (b : Bool) → leading c ps ≤ length ps → pick b (suc (leading c ps)) 0 ≤ suc (length ps)
    by true h = omega arith
    by false h = omega arith

pub run_long : (c : ℕ) (rows : List PageWords) → length (run c rows) ≡ leading c rows
run_long c rows = length-take-le (leading c rows) rows (leading_few c rows)

-- the first k rows are those of column c, and no later column has any of them
record Cut (n c : ℕ) (rows : List PageWords) (k : ℕ) : Type 0 where
  front : take k rows ≡ of_column c rows
  order : in_column_order n (suc c) (drop k rows) ≡ true
  later : (d : ℕ) → c < d → of_column d rows ≡ of_column d (drop k rows)

cut : (n c : ℕ) (rows : List PageWords) → in_column_order n c rows ≡ true → Cut n c rows (leading c rows)
unfolding leading of_column in_column_order
cut n c [] e = record { front = refl; order = refl; later = λ d h. refl }
cut n c (p ∷ ps) e = by (eqb p.column c) refl (cut n c ps)
  where
    by : (b : Bool) → eqb p.column c ≡ b → (in_column_order n c ps ≡ true → Cut n c ps (leading c ps)) → Cut n c (p ∷ ps) (pick b (suc (leading c ps)) 0)
    by true same rest =
        let (_, _, later) = first_row n c p ps e in
        let column : p.column ≡ c = eqb-true p.column c same in
        let r = rest (subst (λ (k : ℕ). in_column_order n k ps ≡ true) column later) in
        record {
          front = rw same (ap (λ (l : List PageWords). p ∷ l) r.front);
          order = r.order;
          later = λ d h. let other : eqb p.column d ≡ false = ne_eqb p.column d (λ z. absurd (omega (arith, z))) in rw other (r.later d h);
        }
    by false other rest =
        let (least, below, later) = first_row n c p ps e in
        let differs : p.column ≡ c → ⊥ = eqb-false p.column c other in
        let above : c < p.column = omega arith in
        let first : leb (suc c) p.column ≡ true = le-leb (suc c) p.column above in
        let second : ltb p.column n ≡ true = lt-ltb p.column n below in
        record { front = rw other (sym (none_below n c p.column ps above later)); order = rw (first, second) later; later = λ d h. refl }

-- one column more
pages_snoc : (done : List (List PageWords)) (x : List PageWords) → pages_in (done ++ (x ∷ [])) ≡ pages_in done + length x
unfolding pages_in
pages_snoc [] x = omega arith
pages_snoc (ps ∷ done) x = let e = pages_snoc done x in omega arith

column_snoc : (c n : ℕ) (rows : List PageWords) → by_column c (suc n) rows ≡ by_column c n rows ++ (of_column (c + n) rows ∷ [])
unfolding by_column
column_snoc c zero rows = let e : c ≡ c + 0 = omega arith in ap (λ (k : ℕ). of_column k rows ∷ []) e
column_snoc c (suc n) rows =
    let e : suc c + n ≡ c + suc n = omega arith in
    ap (λ (l : List (List PageWords)). of_column c rows ∷ l) (column_snoc (suc c) n rows ∙ ap (λ (k : ℕ). by_column (suc c) n rows ++ (of_column k rows ∷ [])) e)

module _ (table : List ℕ) where
  -- the rows of the first n columns
  pub by_column_lem : (n : ℕ) → by_column 0 n (page_rows_in table) ≡ first_rows column_at table n
  unfolding by_column first_rows
  by_column_lem zero = refl
  by_column_lem (suc n) =
      let e : 0 + n ≡ n = omega arith in
      column_snoc 0 n (page_rows_in table) ∙ (λ j. by_column_lem n j ++ (column_at table (e j) ∷ []))

  -- the columns below c have the rows before row i, and the rows from there on stand in order
  pub record Reached (n c i : ℕ) : Type 0 where
    pub inside : i ≤ length table / 5
    pub before : pages_in (first_rows column_at table c) ≡ i
    pub order : in_column_order n c (drop i (page_rows_in table)) ≡ true
    pub later : (d : ℕ) → c ≤ d → column_at table d ≡ of_column d (drop i (page_rows_in table))

  pub reached_none : (n : ℕ) → in_column_order n 0 (page_rows_in table) ≡ true → Reached n 0 0
  unfolding first_rows pages_in
  reached_none n e = record { inside = omega arith; before = refl; order = e; later = λ d h. refl }

  -- the run of column c ends where a row of another column stands
  pub run_fits : (c i e : ℕ) → i ≤ length table / 5 → e ≡ i + leading c (drop i (page_rows_in table)) → (i ≤ e) × (e ≤ length table / 5)
  run_fits c i e inside stop =
      let rows = page_rows_in table in
      let few = leading_few c (drop i rows) in
      let rest = length-drop i rows in
      let many = rows_length page_words_at table (length table / 5) in
      (omega arith, omega arith)

  module _ {n c i e : ℕ} (m : Reached n c i) (stop : e ≡ i + leading c (drop i (page_rows_in table))) where
    rows : List PageWords
    rows = page_rows_in table

    its_run : Cut n c (drop i rows) (leading c (drop i rows))
    unfolding rows
    its_run = cut n c (drop i rows) m.order

    -- its rows are those of the column
    pub run_front : run c (drop i (page_rows_in table)) ≡ column_at table c
    unfolding rows
    run_front = its_run.front ∙ sym (m.later c (omega arith))

    pub run_rows : page_rows_in (take (5 * e - 5 * i) (drop (5 * i) table)) ≡ column_at table c
    unfolding rows
    run_rows =
        let many : e - i ≡ leading c (drop i rows) = omega arith in
        part_rows table i e (run_fits c i e m.inside stop).0 (run_fits c i e m.inside stop).1 ∙ ap (λ (k : ℕ). take k (drop i rows)) many ∙ run_front

    pub reached_more : Reached n (c + 1) e
    unfolding rows first_rows
    reached_more =
        let next : c + 1 ≡ suc c = add-one c in
        let long : length (column_at table c) ≡ leading c (drop i rows) =
        ap length (m.later c (omega arith) ∙ sym its_run.front) ∙ run_long c (drop i rows) in
        let rest : drop (leading c (drop i rows)) (drop i rows) ≡ drop e rows = drop-drop (leading c (drop i rows)) i rows ∙ ap (λ (k : ℕ). drop k rows) (sym stop) in
        record {
          inside = (run_fits c i e m.inside stop).1;
          before = ap (λ (k : ℕ). pages_in (first_rows column_at table k)) next ∙ pages_snoc (first_rows column_at table c) (column_at table c) ∙ omega (arith, m.before, long, stop);
          order = ap (λ (k : ℕ). in_column_order n k (drop e rows)) next ∙ ap (in_column_order n (suc c)) (sym rest) ∙ its_run.order;
          later = λ d h. m.later d (omega arith) ∙ its_run.later d (omega arith) ∙ ap (of_column d) rest;
        }
