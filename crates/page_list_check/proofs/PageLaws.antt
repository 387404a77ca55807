-- The pages of one column: what is refused of them, and how many elements they have.
use Prim.Native.Nat.{ℕ, ◌+◌, ◌*◌, ◌/◌, ◌^◌, ◌≤◌, ◌<◌}
use mathlib.Core.List.{List, [], ◌∷◌, ◌++◌, map, map-append}
use mathlib.Core.Path.{◌≡◌, refl, sym, ap, ◌∙◌}
use native.Mathlib.Numerals.{add-one}
use native.Mathlib.Omega.{arith}
use lib.Dec.{ltb}
use borrow.Author.Tests.{ltb-true}
use lib.ListN.{length}
use Rattle.numbers.specs.Choice.{both}
use Rattle.numbers.proofs.Choice.{both_true}
use Rattle.wire.proofs.Laws.{passed}
use Rattle.rows.specs.Tables.{first_rows}
use Rattle.rows.proofs.FirstRows.{rows_length}
use Rattle.pages.specs.Pages.{running_total, elements_of}
use Rattle.pages.proofs.PageLaws.{elements_snoc}
use Rattle.writing.specs.Piece.{first, list_piece, pieces}
use Rattle.writing.specs.Rows.{page_words_at, page_rows_in}
use Rattle.writing.specs.PageList.{page_word_piece, page_piece, page_item, page_says}
use Rattle.writing.specs.declared.PageWords.{PageWords}
use Rattle.writing.proofs.Sure.{first_none}
use Rattle.writing.proofs.Items.{Passed, passed_none, passed_more, passed_refused, passed_all, first_nonzero}
use Rattle.page_list_check.specs.Checks.{elements_in, Summed}
use Rattle.page_list_check.specs.declared.page.ColumnSum.{ColumnSum}

-- a page of which nothing is refused has a number of elements of 30 bits
few_elements : (file bits : ℕ) (p : PageWords) → (page_piece file bits p).number ≡ 0 → p.elements < 2 ^ 30
unfolding page_piece page_word_piece
few_elements file bits p e =
    let narrow = both (ltb p.elements (2 ^ 30)) (ltb p.bit 2) in
    let (word, _) = first_none (page_word_piece p).number _ e in
    let (fits, _) = passed narrow 24 0 word in
    ltb-true p.elements (2 ^ 30) (both_true (ltb p.elements (2 ^ 30)) (ltb p.bit 2) fits).0

elements_more : (ps : List PageWords) (p : PageWords) → elements_in (ps ++ (p ∷ [])) ≡ elements_in ps + p.elements
elements_more ps p = ap elements_of (map-append page_says ps (p ∷ [])) ∙ elements_snoc (map page_says ps) (page_says p)

-- nothing is refused of the first i of n pages, and they have so many elements
pub record Tallied (file bits : ℕ) (table : List ℕ) (n i elements : ℕ) : Type 0 where
  pub passes : Passed (page_item file bits) page_words_at table n i
  pub sum : elements ≡ elements_in (first_rows page_words_at table i)
  pub few : elements ≤ 1073741823 * i

module _ {file bits : ℕ} {table : List ℕ} {n : ℕ} where
  pub tallied_none : Tallied file bits table n 0 0
  unfolding elements_of first_rows
  tallied_none = record { passes = passed_none (page_item file bits) page_words_at table n; sum = refl; few = omega arith }

  module _ {i elements : ℕ} (m : Tallied file bits table n i elements) {p : PageWords} (is : p ≡ page_words_at table i) {r : ℕ} (told : r ≡ (page_piece file bits p).number) where
    number_is_lem : r ≡ (page_piece file bits (page_words_at table i)).number
    number_is_lem = told ∙ ap (λ (q : PageWords). (page_piece file bits q).number) is

    pub tallied_few : r ≡ 0 → p.elements < 2 ^ 30
    tallied_few good = few_elements file bits p (sym told ∙ good)

    pub tallied_more : i < n → r ≡ 0 → Tallied file bits table n (i + 1) (elements + p.elements)
    unfolding first_rows
    tallied_more less good =
        let small = tallied_few good in
        let a = m.few in
        let same : p.elements ≡ (page_words_at table i).elements = ap (λ (q : PageWords). q.elements) is in
        let more = elements_more (first_rows page_words_at table i) (page_words_at table i) in
        record {
          passes = passed_more (page_item file bits) page_words_at table m.passes less number_is_lem good;
          sum = omega (arith, m.sum, same, more, ap (λ (k : ℕ). elements_in (first_rows page_words_at table k)) (add-one i));
          few = omega arith;
        }

    pub tallied_refused : i < n → (r ≡ 0 → ⊥) → Summed (pieces (page_item file bits) [] (first_rows page_words_at table n)).number (first_rows page_words_at table n) (record { number = r; elements = elements })
    tallied_refused less bad = record { number_is = passed_refused (page_item file bits) page_words_at table m.passes less number_is_lem bad; elements_are = λ z. absurd (bad z) }

  pub tallied_all : {i elements : ℕ} → Tallied file bits table n i elements → n ≤ i
      → Summed (pieces (page_item file bits) [] (first_rows page_words_at table n)).number (first_rows page_words_at table n) (record { number = 0; elements = elements })
  tallied_all {i} m h =
      let same : i ≡ n = omega (arith, m.passes.most) in
      record {
        number_is = passed_all (page_item file bits) page_words_at table m.passes h;
        elements_are = λ _. m.sum ∙ ap (λ (k : ℕ). elements_in (first_rows page_words_at table k)) same;
      }

-- with the verdict on their count
module _ (file bits before : ℕ) (table : List ℕ) {count : ℕ} (is : count ≡ running_total before (length table / 5)) where
  count_is : count ≡ running_total before (length (page_rows_in table))
  count_is = is ∙ ap (running_total before) (sym (rows_length page_words_at table (length table / 5)))

  pub too_many_lem : (count ≡ 0 → ⊥) → Summed (list_piece (running_total before) (page_item file bits) (page_rows_in table)).number (page_rows_in table) (record { number = count; elements = 0 })
  too_many_lem bad =
      record {
        number_is = first_nonzero count _ bad ∙ ap (λ (k : ℕ). first k (pieces (page_item file bits) [] (page_rows_in table)).number) count_is;
        elements_are = λ z. absurd (bad z);
      }

  pub counted : count ≡ 0 → {r : ColumnSum} → Summed (pieces (page_item file bits) [] (page_rows_in table)).number (page_rows_in table) r
      → Summed (list_piece (running_total before) (page_item file bits) (page_rows_in table)).number (page_rows_in table) r
  counted good s =
      record {
        number_is = s.number_is ∙ ap (λ (k : ℕ). first k (pieces (page_item file bits) [] (page_rows_in table)).number) (sym good ∙ count_is);
        elements_are = s.elements_are;
      }
