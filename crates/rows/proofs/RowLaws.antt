-- Row i of a table, and that a table gives back the rows whose words it starts with. Assumes nothing.
use Prim.Native.Nat.{ℕ, zero, suc, ◌+◌, ◌*◌, ◌/◌, ◌≤◌, ◌<◌}
use mathlib.Core.Path.{◌≡◌, refl, sym, ap, ◌∙◌}
use mathlib.Core.Bool.{Bool, true, false}
use mathlib.Core.List.{List, [], ◌∷◌, ◌++◌, append_assoc, flatten}
use native.Mathlib.Nat.{mul-zero, mul-suc, mul_comm, add-zero, add_comm, zero-add, mul-le-mul_left, le-div_iff_mul-le}
use native.Mathlib.Omega.{arith}
use borrow.Author.Tests.{lt-ltb, le-ltb}
use lib.ListN.{length, get_or, take, drop, length-append, get_or-eq_default}
use lib.Seq.{get_or-take, get_or-drop, take-append_seam, drop-append-add, take-suc, take-length}
use lib.Dec.{eqb, ltb}
use Rattle.numbers.specs.Choice.{pick}
use Rattle.numbers.proofs.Parts.{cut_length}
use Rattle.numbers.specs.Rows.{flat_by}
use Rattle.rows.specs.Words.{bit, field_words, column_words, alias_words, field_of, dark_of, column_of, alias_of, link_of, cluster_of, page_of, link_words, cluster_words, page_words}
use Rattle.rows.specs.Tables.{row_words, first_rows}
use Rattle.rows.specs.Statements.{GivesBack, ColumnsBack, AliasesBack, LinksBack, ClustersBack, PagesBack, PageListsBack, FieldsBack}
use Rattle.rows.specs.declared.FieldRow.{FieldRow}
use Rattle.rows.specs.declared.PageRow.{PageRow}
use Rattle.rows.proofs.TableLaws.{flat_is, flat_flat, flat_length}

-- a row that a table has whole lies in it
pub row_fits : (width n i : ℕ) → 0 < width → i < n / width → width * i + width ≤ n
row_fits width n i some l =
    let a = (le-div_iff_mul-le {k = width} {x = suc i} {y = n} some).0 l in
    let e = mul_comm (suc i) width in
    let f = mul-suc width i in
    omega arith

row_there : (width n i : ℕ) → 0 < width → width * i + width ≤ n → i < n / width
row_there width n i some l =
    let e = mul_comm (suc i) width in
    let f = mul-suc width i in
    (le-div_iff_mul-le {k = width} {x = suc i} {y = n} some).1 (omega arith)

module _ (width : ℕ) (table : List ℕ) (i : ℕ) where
  pub row_word : (j : ℕ) → j < width → i < length table / width → get_or (row_words width table i) j 0 ≡ get_or table (width * i + j) 0
  unfolding row_words
  row_word j h l = rw (lt-ltb i (length table / width) l, get_or-take width (drop (width * i) table) j 0 h) (get_or-drop (width * i) table j 0)

  pub row_none : length table / width ≤ i → row_words width table i ≡ []
  unfolding row_words
  row_none h = rw (le-ltb i (length table / width) h)

  -- a row has no word from its width on
  pub row_narrow : (j : ℕ) → width ≤ j → get_or (row_words width table i) j 0 ≡ 0
  unfolding row_words
  row_narrow j h = by (ltb i (length table / width))
    where
      by : (b : Bool) → get_or (pick b (take width (drop (width * i) table)) []) j 0 ≡ 0
      by true = get_or-eq_default (take width (drop (width * i) table)) 0 (let l = cut_length width (drop (width * i) table) in omega arith)
      by false = refl

-- the words of a row of a table that starts with the words of some rows
module _ {A : Type 0} (w : ℕ → A → List ℕ) (width : ℕ) (each : (i : ℕ) (a : A) → length (w i a) ≡ width) (some : 0 < width) where
  cut_words : (k : ℕ) (rows : List A) (rest : List ℕ) (other : A) (i : ℕ) → i < length rows → take width (drop (width * i) (flat_by w k rows ++ rest)) ≡ w (k + i) (get_or rows i other)
  unfolding flat_by
  cut_words k [] rest other i h = absurd (omega arith)
  cut_words k (a ∷ rows) rest other zero h =
      rw (mul-zero, append_assoc, add-zero) (ap (λ (n : ℕ). take n (w k a ++ (flat_by w (suc k) rows ++ rest))) (sym (each k a)) ∙ take-append_seam (w k a) (flat_by w (suc k) rows ++ rest))
  cut_words k (a ∷ rows) rest other (suc i) h =
      let e : width * suc i ≡ length (w k a) + width * i = mul-suc width i ∙ add_comm (width * i) width ∙ ap (λ (n : ℕ). n + width * i) (sym (each k a)) in
      let f : k + suc i ≡ suc k + i = omega arith in
      rw (e, append_assoc, drop-append-add, f) (cut_words (suc k) rows rest other i (omega arith))

  pub row_words_lem : (rows : List A) (rest : List ℕ) (other : A) (i : ℕ) → i < length rows → row_words width (flat_by w 0 rows ++ rest) i ≡ w i (get_or rows i other)
  unfolding row_words
  row_words_lem rows rest other i h =
      let long = flat_length w width each 0 rows in
      let joined = length-append (flat_by w 0 rows) rest in
      let more : width * suc i ≤ width * length rows = mul-le-mul_left width h in
      let step = mul-suc width i in
      let room : width * i + width ≤ length (flat_by w 0 rows ++ rest) = omega arith in
      rw (lt-ltb i (length (flat_by w 0 rows ++ rest) / width) (row_there width (length (flat_by w 0 rows ++ rest)) i some room), cut_words 0 rows rest other i h, zero-add)

  -- the first rows, where each row is made of its words
  module _ (row : List ℕ → ℕ → A) (rows : List A) (rest : List ℕ) (same : (other : A) (i : ℕ) → i < length rows → row (flat_by w 0 rows ++ rest) i ≡ get_or rows i other) where
    some_rows : (other : A) (k : ℕ) → k ≤ length rows → first_rows row (flat_by w 0 rows ++ rest) k ≡ take k rows
    unfolding first_rows
    some_rows other zero h = refl
    some_rows other (suc k) h = rw (some_rows other k (omega arith), same other k h) (sym (take-suc rows k other h))

  pub all_rows_lem : (row : List ℕ → ℕ → A) (rows : List A) (rest : List ℕ) → ((other : A) (i : ℕ) → i < length rows → row (flat_by w 0 rows ++ rest) i ≡ get_or rows i other)
      → first_rows row (flat_by w 0 rows ++ rest) (length rows) ≡ rows
  unfolding first_rows
  all_rows_lem row [] rest same = refl
  all_rows_lem row (a ∷ rows) rest same = some_rows row (a ∷ rows) rest same a (length (a ∷ rows)) (omega arith) ∙ take-length (a ∷ rows)

-- a table of rows whose words do not depend on the number
module _ {A : Type 0} (words : A → List ℕ) (of : List ℕ → A) (width : ℕ) (each : (a : A) → length (words a) ≡ width) (some : 0 < width) (back : (a : A) → of (words a) ≡ a) where
  one : (rows : List A) (rest : List ℕ) (other : A) (i : ℕ) → i < length rows → of (row_words width (flat_by (λ _. words) 0 rows ++ rest) i) ≡ get_or rows i other
  one rows rest other i h = rw (row_words_lem (λ _. words) width (λ _. each) some rows rest other i h) (back (get_or rows i other))

  pub gives_back : GivesBack words (λ table i. of (row_words width table i))
  gives_back =
      record {
        each = λ rows rest other i h. rw (← flat_is words 0 rows) (one rows rest other i h);
        all = λ rows rest. rw (← flat_is words 0 rows) (all_rows_lem (λ _. words) width (λ _. each) some (λ table i. of (row_words width table i)) rows rest (one rows rest));
      }

pub columns_back : ColumnsBack
unfolding column_words
columns_back = gives_back column_words column_of 4 (λ _. refl) (omega arith) (λ _. refl)

pub aliases_back : AliasesBack
unfolding alias_words
aliases_back = gives_back alias_words alias_of 2 (λ _. refl) (omega arith) (λ _. refl)

pub links_back : LinksBack
links_back = gives_back link_words link_of 2 (λ _. refl) (omega arith) (λ _. refl)

pub clusters_back : ClustersBack
clusters_back = gives_back cluster_words cluster_of 5 (λ _. refl) (omega arith) (λ _. refl)

pub bit_back : (b : Bool) → eqb (bit b) 1 ≡ b
bit_back true = refl
bit_back false = refl

page_back : (p : PageRow) → page_of (page_words p) ≡ p
page_back p = λ i. record { column = p.column; elements = p.elements; checksum = bit_back p.checksum i; size = p.size; offset = p.offset }

pub pages_back : PagesBack
pages_back = gives_back page_words page_of 5 (λ _. refl) (omega arith) page_back

pub page_lists_back : PageListsBack
page_lists_back =
    record {
      each = λ lists rest other i h. rw (flat_flat page_words lists) (pages_back.each (flatten lists) rest other i h);
      all = λ lists rest. rw (flat_flat page_words lists) (pages_back.all (flatten lists) rest);
    }

module _ (mark : ℕ → ℕ) (rows : List FieldRow) (rest : List ℕ) where
  field_words_lem : (other : FieldRow) (i : ℕ) → i < length rows → row_words 15 (flat_by (λ i. field_words (mark i)) 0 rows ++ rest) i ≡ field_words (mark i) (get_or rows i other)
  unfolding field_words
  field_words_lem other i h = row_words_lem (λ i. field_words (mark i)) 15 (λ _ _. refl) (omega arith) rows rest other i h

  field_back : (other : FieldRow) (i : ℕ) → i < length rows → field_of (row_words 15 (flat_by (λ i. field_words (mark i)) 0 rows ++ rest) i) ≡ get_or rows i other
  unfolding field_words
  field_back other i h = ap field_of (field_words_lem other i h)

  mark_back : (other : FieldRow) (i : ℕ) → i < length rows → dark_of (row_words 15 (flat_by (λ i. field_words (mark i)) 0 rows ++ rest) i) ≡ mark i
  unfolding field_words
  mark_back other i h = ap dark_of (field_words_lem other i h)

pub fields_back : FieldsBack
unfolding field_words
fields_back =
    record {
      each = λ mark rows rest other i h. (field_back mark rows rest other i h, mark_back mark rows rest other i h);
      all = λ mark rows rest. all_rows_lem (λ i. field_words (mark i)) 15 (λ _ _. refl) (omega arith) (λ table i. field_of (row_words 15 table i)) rows rest (field_back mark rows rest);
    }
