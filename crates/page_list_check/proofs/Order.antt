-- The loops over the rows of a table of pages that look at their columns.
use Prim.Native.Nat.{ℕ, suc, ◌+◌, ◌/◌, ◌≤◌, ◌<◌}
use mathlib.Core.List.{List, [], ◌∷◌}
use mathlib.Core.Bool.{Bool, true, false}
use mathlib.Core.Path.{◌≡◌, refl, sym, ap, ◌∙◌}
use native.Mathlib.Numerals.{add-one}
use native.Mathlib.Omega.{arith}
use lib.Dec.{ltb, leb, eqb}
use borrow.Author.Tests.{le-leb, lt-leb, lt-ltb, le-ltb, eq-eqb, ne_eqb, eqb-true, eqb-false, leb-true, leb-false}
use lib.ListN.{length, drop}
use lib.Seq.{drop-drop}
use Rattle.numbers.specs.Choice.{pick, both}
use Rattle.rows.proofs.FirstRows.{next_row, no_rows}
use Rattle.writing.specs.Rows.{page_words_at, page_rows_in}
use Rattle.writing.specs.PageList.{in_column_order}
use Rattle.writing.specs.declared.PageWords.{PageWords}
use Rattle.page_list_check.specs.Runs.{leading}

-- a number that is not c is above it where it is not below
next_least : (c k : ℕ) → (k ≡ c → ⊥) → leb c k ≡ leb (suc c) k
next_least c k differs = by (leb (suc c) k) refl
  where
    by : (b : Bool) → leb (suc c) k ≡ b → leb c k ≡ b
    by true e = let h = leb-true (suc c) k e in le-leb c k (omega arith)
    by false e = let h = leb-false (suc c) k e in lt-leb c k (omega arith)

-- no row of n columns stands in order behind the last
none_behind : (n : ℕ) (p : PageWords) (ps : List PageWords) → in_column_order n n (p ∷ ps) ≡ false
unfolding in_column_order
none_behind n p ps = by (leb n p.column) refl
  where
    by : (b : Bool) → leb n p.column ≡ b → both b (both (ltb p.column n) (in_column_order n p.column ps)) ≡ false
    by true e = rw (le-ltb p.column n (leb-true n p.column e)) refl
    by false e = refl

-- without the run of column c in front, the rows from the next column on decide
without_run : (n c : ℕ) (rows : List PageWords) → c < n → in_column_order n c rows ≡ in_column_order n (suc c) (drop (leading c rows) rows)
unfolding leading in_column_order
without_run n c [] h = refl
without_run n c (p ∷ ps) h = by (eqb p.column c) refl (without_run n c ps h)
  where
    by : (b : Bool) → eqb p.column c ≡ b → in_column_order n c ps ≡ in_column_order n (suc c) (drop (leading c ps) ps)
        → both (leb c p.column) (both (ltb p.column n) (in_column_order n p.column ps)) ≡ in_column_order n (suc c) (drop (pick b (suc (leading c ps)) 0) (p ∷ ps))
    by true same rest =
        let column : p.column ≡ c = eqb-true p.column c same in
        let low : leb c p.column ≡ true = le-leb c p.column (omega arith) in
        let high : ltb p.column n ≡ true = lt-ltb p.column n (omega arith) in
        rw (low, high) (ap (λ (k : ℕ). in_column_order n k ps) column ∙ rest)
    by false other rest =
        let differs : p.column ≡ c → ⊥ = eqb-false p.column c other in
        ap (λ (b : Bool). both b (both (ltb p.column n) (in_column_order n p.column ps))) (next_least c p.column differs)

module _ (table : List ℕ) where
  -- the rows before row i are in order: what is left decides
  pub record Ordered (n i least : ℕ) : Type 0 where
    pub same : in_column_order n 0 (page_rows_in table) ≡ in_column_order n least (drop i (page_rows_in table))

  module _ {n : ℕ} where
    pub ordered_none : Ordered n 0 0
    ordered_none = record { same = refl }

    pub ordered_all : {i least : ℕ} → Ordered n i least → length table / 5 ≤ i → true ≡ in_column_order n 0 (page_rows_in table)
    unfolding in_column_order
    ordered_all {i} {least} m h = sym (m.same ∙ ap (in_column_order n least) (no_rows page_words_at table (length table / 5) i h))

    module _ {i least : ℕ} (m : Ordered n i least) (h : i < length table / 5) {column : ℕ} (is : column ≡ (page_words_at table i).column) where
      one : in_column_order n 0 (page_rows_in table) ≡ both (leb least column) (both (ltb column n) (in_column_order n column (drop (i + 1) (page_rows_in table))))
      unfolding in_column_order
      one =
          m.same ∙ ap (in_column_order n least) (next_row page_words_at table (length table / 5) i h)
          ∙ ap (λ (k : ℕ). both (leb least k) (both (ltb k n) (in_column_order n k (drop (i + 1) (page_rows_in table))))) (sym is)

      pub ordered_more : least ≤ column → column < n → Ordered n (i + 1) column
      ordered_more low high = record { same = one ∙ rw (le-leb least column low, lt-ltb column n high) refl }

      pub order_falls : column < least → false ≡ in_column_order n 0 (page_rows_in table)
      order_falls low = sym (one ∙ rw (lt-leb least column low) refl)

      pub names_none : least ≤ column → n ≤ column → false ≡ in_column_order n 0 (page_rows_in table)
      names_none low high = sym (one ∙ rw (le-leb least column low, le-ltb column n high) refl)

    -- the run of a column
    pub ordered_run : {i c : ℕ} → Ordered n i c → c < n → {e : ℕ} → e ≡ i + leading c (drop i (page_rows_in table)) → Ordered n e (c + 1)
    ordered_run {i} {c} m h stop =
        let rows = page_rows_in table in
        record {
          same = m.same ∙ without_run n c (drop i rows) h
              ∙ ap (in_column_order n (suc c)) (drop-drop (leading c (drop i rows)) i rows)
              ∙ (λ j. in_column_order n (sym (add-one c) j) (drop (sym stop j) rows));
        }

    -- after the runs of all columns: they are in order where no row is left
    pub ordered_end : {i c : ℕ} → Ordered n i c → c ≡ n → i ≤ length table / 5 → eqb i (length table / 5) ≡ in_column_order n 0 (page_rows_in table)
    unfolding in_column_order
    ordered_end {i} {c} m last inside = by (eqb i (length table / 5)) refl ∙ sym (m.same ∙ ap (λ (k : ℕ). in_column_order n k (drop i (page_rows_in table))) last)
      where
        by : (b : Bool) → eqb i (length table / 5) ≡ b → b ≡ in_column_order n n (drop i (page_rows_in table))
        by true e = let all = eqb-true i (length table / 5) e in sym (ap (in_column_order n n) (no_rows page_words_at table (length table / 5) i (omega arith)))
        by false e = let some = eqb-false i (length table / 5) e in sym (ap (in_column_order n n) (next_row page_words_at table (length table / 5) i (omega arith)) ∙ none_behind n (page_words_at table i) (drop (i + 1) (page_rows_in table)))

  -- the run of column c that starts with row `first` has the rows up to i
  pub record InRun (c first i : ℕ) : Type 0 where
    pub same : first + leading c (drop first (page_rows_in table)) ≡ i + leading c (drop i (page_rows_in table))

  module _ {c first : ℕ} where
    pub run_none : InRun c first first
    run_none = record { same = refl }

    pub run_all : {i : ℕ} → InRun c first i → length table / 5 ≤ i → i ≡ first + leading c (drop first (page_rows_in table))
    unfolding leading
    run_all {i} m h = omega (arith, m.same, ap (leading c) (no_rows page_words_at table (length table / 5) i h))

    module _ {i : ℕ} (m : InRun c first i) (h : i < length table / 5) {column : ℕ} (is : column ≡ (page_words_at table i).column) where
      front : leading c (drop i (page_rows_in table)) ≡ pick (eqb column c) (suc (leading c (drop (i + 1) (page_rows_in table)))) 0
      unfolding leading
      front = ap (leading c) (next_row page_words_at table (length table / 5) i h) ∙ ap (λ (k : ℕ). pick (eqb k c) (suc (leading c (drop (i + 1) (page_rows_in table)))) 0) (sym is)

      pub run_more : column ≡ c → InRun c first (i + 1)
      run_more e =
          let long : leading c (drop i (page_rows_in table)) ≡ suc (leading c (drop (i + 1) (page_rows_in table))) = front ∙ rw (eq-eqb column c e) refl in
          record { same = omega (arith, m.same, long) }

      pub run_stops : (column ≡ c → ⊥) → i ≡ first + leading c (drop first (page_rows_in table))
      run_stops differs =
          let none : leading c (drop i (page_rows_in table)) ≡ 0 = front ∙ rw (ne_eqb column c differs) refl in
          omega (arith, m.same, none)
