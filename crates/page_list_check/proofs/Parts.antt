-- The rows of a part of a table of pages.
use Prim.Native.Nat.{ℕ, zero, suc, ◌+◌, ◌*◌, ◌/◌, ◌-◌, ◌≤◌, ◌<◌}
use mathlib.Core.List.{List, [], ◌∷◌, ◌++◌}
use mathlib.Core.Path.{◌≡◌, refl, sym, ap, ◌∙◌}
use native.Mathlib.Omega.{arith}
use borrow.Author.Tests.{lt-ltb}
use lib.ListN.{length, get_or, take, drop, length-drop}
use lib.Seq.{length-take-le, take-suc, take_all, take-add, take-take, drop-drop, drop_at, get_or-drop}
use Rattle.rows.specs.Tables.{row_words, first_rows}
use Rattle.rows.proofs.FirstRows.{rows_length, row_at}
use Rattle.writing.specs.declared.PageWords.{PageWords}
use Rattle.writing.specs.Rows.{page_words_of, page_words_at, page_rows_in}

-- what is left of the front of a list
drop_front : (a n : ℕ) (l : List ℕ) → a ≤ n → n ≤ length l → drop a (take n l) ≡ take (n - a) (drop a l)
drop_front a n l few h =
    let whole : n ≡ a + (n - a) = omega arith in
    ap (λ (k : ℕ). drop a (take k l)) whole ∙ ap (drop a) (take-add a (n - a) l) ∙ drop_at (take a l) (take (n - a) (drop a l)) a (length-take-le a l (omega arith))

-- the first k rows of a table are the front of a list that has them
rows_front : (table : List ℕ) (l : List PageWords) (d : PageWords) (k : ℕ) → k ≤ length l → ((j : ℕ) → j < k → page_words_at table j ≡ get_or l j d)
    → first_rows page_words_at table k ≡ take k l
unfolding first_rows
rows_front table l d zero h same = refl
rows_front table l d (suc k) h same = (λ j. rows_front table l d k (omega arith) (λ n few. same n (omega arith)) j ++ (same k (omega arith) j ∷ [])) ∙ sym (take-suc l k d h)

pub front_rows : (table : List ℕ) (k : ℕ) → k ≤ length table / 5 → first_rows page_words_at table k ≡ take k (page_rows_in table)
front_rows table k h =
    let many = rows_length page_words_at table (length table / 5) in
    let d = page_words_at table 0 in
    rows_front table (page_rows_in table) d k (omega arith) (λ j few. sym (row_at page_words_at table (length table / 5) j d (omega arith)))

module _ (table : List ℕ) (i e : ℕ) (some : i ≤ e) (inside : e ≤ length table / 5) where
  abbrev part : List ℕ
  part = take (5 * e - 5 * i) (drop (5 * i) table)

  part_long : length part ≡ 5 * e - 5 * i
  part_long = length-take-le (5 * e - 5 * i) (drop (5 * i) table) (omega (arith, length-drop (5 * i) table))

  its_words : (j : ℕ) → j < e - i → row_words 5 part j ≡ row_words 5 table (i + j)
  unfolding row_words
  its_words j h =
      let long = part_long in
      let rest = length-drop (5 * i) table in
      let place : 5 * i + 5 * j ≡ 5 * (i + j) = omega arith in
      rw (lt-ltb j (length part / 5) (omega arith), lt-ltb (i + j) (length table / 5) (omega arith))
      (ap (take 5) (drop_front (5 * j) (5 * e - 5 * i) (drop (5 * i) table) (omega arith) (omega arith))
      ∙ take-take 5 (5 * e - 5 * i - 5 * j) (drop (5 * j) (drop (5 * i) table)) (omega arith)
      ∙ ap (take 5) (drop-drop (5 * j) (5 * i) table ∙ ap (λ (k : ℕ). drop k table) place))

  some_rows : first_rows page_words_at part (e - i) ≡ take (e - i) (drop i (page_rows_in table))
  some_rows =
      let rows = page_rows_in table in
      let many = rows_length page_words_at table (length table / 5) in
      let d = page_words_at table 0 in
      rows_front part (drop i rows) d (e - i) (omega (arith, length-drop i rows))
      (λ k few. ap page_words_of (its_words k few) ∙ sym (get_or-drop i rows k d ∙ row_at page_words_at table (length table / 5) (i + k) d (omega arith)))

  -- the rows from i on, up to e
  pub part_rows : page_rows_in part ≡ take (e - i) (drop i (page_rows_in table))
  part_rows =
      let long = part_long in
      let count : length part / 5 ≡ e - i = omega arith in
      ap (first_rows page_words_at part) count ∙ some_rows

-- the rows from i on
pub rest_rows : (table : List ℕ) (i : ℕ) → i ≤ length table / 5 → page_rows_in (take (5 * (length table / 5) - 5 * i) (drop (5 * i) table)) ≡ drop i (page_rows_in table)
rest_rows table i inside =
    let rows = page_rows_in table in
    let many = rows_length page_words_at table (length table / 5) in
    part_rows table i (length table / 5) inside (omega arith) ∙ take_all (length table / 5 - i) (drop i rows) (omega (arith, length-drop i rows))
