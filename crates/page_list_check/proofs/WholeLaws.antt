-- The number of a whole page list, beside a header.
use Prim.Native.Nat.{ℕ, ◌≤◌}
use mathlib.Core.List.{List, [], map, map-map}
use mathlib.Core.Bool.{Bool, true, false}
use mathlib.Core.Path.{◌≡◌, refl, sym, ap, ◌∙◌}
use native.Mathlib.Omega.{arith}
use lib.Dec.{leb}
use borrow.Author.Tests.{eq-eqb, leb-true}
use lib.ListN.{length, take, replicate, length-map}
use lib.Seq.{take_at}
use Rattle.numbers.proofs.Parts.{over_length}
use Rattle.wire.specs.Reading.{unless}
use Rattle.wire.proofs.Laws.{passed}
use Rattle.frames.specs.Frames.{at_most}
use Rattle.header.specs.Header.{Lists}
use Rattle.rows.specs.Words.{most_fields, most_columns}
use Rattle.rows.specs.Tables.{columns_in}
use Rattle.pages.specs.Pages.{elements_of}
use Rattle.column_pages.specs.ColumnPages.{bits_of, per_column}
use Rattle.column_pages.specs.Answers.{bits_in}
use Rattle.column_pages.proofs.ColumnLaws.{bits_length}
use Rattle.totals.specs.Totals.{totals}
use Rattle.page_list.specs.PageList.{totals_of}
use Rattle.page_list.specs.Schema.{SchemaOf}
use Rattle.writing.specs.Piece.{first, list_piece, pieces}
use Rattle.writing.specs.Rows.{page_rows_in}
use Rattle.writing.specs.PageList.{by_column, in_column_order, column_pages_item, page_list_payload_piece, page_says, pages_say, totals_number}
use Rattle.writing.specs.declared.PageWords.{PageWords}
use Rattle.writing.proofs.Items.{first_nonzero}
use Rattle.writing.proofs.ColumnOrder.{columns_long}
use Rattle.page_list_check.specs.Checks.{elements_in, AllSummed}
use Rattle.page_list_check.specs.declared.columns.ColumnSums.{ColumnSums}

-- a count that passes is not above the ceiling
pub count_fits : (n : ℕ) {count : ℕ} → count ≡ at_most most_columns n → count ≡ 0 → n ≤ most_columns
count_fits n is good = leb-true n most_columns (passed (leb n most_columns) 9 0 (sym is ∙ good)).0

per_column_lem : (n : ℕ) → per_column n n ≡ at_most most_columns n
per_column_lem n = ap (λ (b : Bool). unless (leb n most_columns) 10 (unless b 19 0)) (eq-eqb n n refl)

module _ (file entries : ℕ) (parents flags columns table : List ℕ) (n : ℕ) where
  -- what is asked of the code
  abbrev pub Number : ℕ → Type 0
  Number r =
      (l : Lists) → SchemaOf l parents flags columns n
      → r ≡ first (unless (in_column_order n 0 (page_rows_in table)) 14 (page_list_payload_piece file (bits_of l.columns) (by_column 0 n (page_rows_in table))).number) (totals_number (totals_of entries l (pages_say n (page_rows_in table))))

  pub out_of_order : in_column_order n 0 (page_rows_in table) ≡ false → Number 14
  out_of_order e l o = rw e refl

  -- the order of the rows comes before a refusal that was found first
  pub order_before : {k r : ℕ} → r ≡ unless (in_column_order n 0 (page_rows_in table)) 14 k → (in_column_order n 0 (page_rows_in table) ≡ true → Number k) → Number r
  order_before {k} is found = by (in_column_order n 0 (page_rows_in table)) refl is
    where
      by : {r : ℕ} (b : Bool) → in_column_order n 0 (page_rows_in table) ≡ b → r ≡ unless b 14 k → Number r
      by true order e l o = e ∙ found order l o
      by false order e l o = e ∙ out_of_order order l o

  module _ (order : in_column_order n 0 (page_rows_in table) ≡ true) {count : ℕ} (is : count ≡ at_most most_columns n) where
    abbrev pub pss : List (List PageWords)
    pss = by_column 0 n (page_rows_in table)

    payload : (l : Lists) → SchemaOf l parents flags columns n → (page_list_payload_piece file (bits_of l.columns) pss).number ≡ first count (pieces (column_pages_item file (bits_in columns n)) [] pss).number
    unfolding page_list_payload_piece
    payload l o =
        ap (λ (bits : List ℕ). (list_piece (per_column (length bits)) (column_pages_item file bits) pss).number) (sym o.bits_are)
        ∙ (λ j. first (per_column (bits_length columns n j) (columns_long 0 n (page_rows_in table) j)) (pieces (column_pages_item file (bits_in columns n)) [] pss).number)
        ∙ ap (λ (k : ℕ). first k (pieces (column_pages_item file (bits_in columns n)) [] pss).number) (per_column_lem n ∙ sym is)

    pub too_many_columns : (count ≡ 0 → ⊥) → Number count
    too_many_columns bad l o = rw (order, payload l o) (first_nonzero count _ bad ∙ ap (λ (k : ℕ). first k (totals_number (totals_of entries l (pages_say n (page_rows_in table))))) (first_nonzero count _ bad))

    module _ (good : count ≡ 0) {r : ColumnSums} (told : AllSummed (pieces (column_pages_item file (bits_in columns n)) [] pss).number pss r) where
      its_number : (l : Lists) → SchemaOf l parents flags columns n → (page_list_payload_piece file (bits_of l.columns) pss).number ≡ r.number
      its_number l o = payload l o ∙ ap (λ (k : ℕ). first k (pieces (column_pages_item file (bits_in columns n)) [] pss).number) good ∙ sym told.number_is

      pub column_refused : (r.number ≡ 0 → ⊥) → Number r.number
      column_refused bad l o = rw (order, its_number l o) (first_nonzero r.number _ bad)

      pub columns_inside : r.number ≡ 0 → n ≤ length r.elements
      columns_inside fine =
          let few = count_fits n is good in
          let many = length-map pss elements_in ∙ columns_long 0 n (page_rows_in table) in
          let long = ap length (told.elements_are fine) ∙ over_length (map elements_in pss) (replicate most_columns 0) (omega arith) in
          omega arith

      sums_are : r.number ≡ 0 → take n r.elements ≡ map elements_of (pages_say n (page_rows_in table))
      unfolding pages_say
      sums_are fine =
          ap (take n) (told.elements_are fine) ∙ take_at (map elements_in pss) _ n (length-map pss elements_in ∙ columns_long 0 n (page_rows_in table))
          ∙ sym (map-map elements_of (map page_says) pss)

      pub totals_last : r.number ≡ 0 → {t : ℕ} → t ≡ totals_number (totals entries (columns_in columns n) (take n r.elements) 0 (take most_fields parents) flags) → Number t
      totals_last fine e l o =
          rw (order, its_number l o, fine)
          (e ∙ (λ j. totals_number (totals entries (o.columns_are j) (sums_are fine j) 0 (o.parents_are j) (o.flags_are j))))
