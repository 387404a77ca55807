-- The totals: marks of fields by their first column, and the fields one after the other.
use Prim.Native.Nat.{ℕ, suc, ◌+◌, ◌-◌, ◌≤◌, ◌<◌, min}
use mathlib.Core.Path.{◌≡◌, refl, sym, ap, subst, ◌∙◌}
use mathlib.Core.Logic.{◌⊎◌, inl, inr, ⊎_elim}
use mathlib.Core.Bool.{Bool, true, false}
use mathlib.Core.List.{List, [], ◌∷◌}
use native.Mathlib.Numerals.{add-one}
use native.Mathlib.Decide.{dec_le}
use native.Mathlib.Omega.{arith}
use borrow.Author.Tests.{eqb-true, eqb-false}
use lib.Dec.{eqb}
use lib.ListN.{length, get_or, take, drop, set, replicate, get_or-replicate, length-set, length-take, drop_of_length-le}
use lib.Seq.{get_or-take, get_or-set_same, get_or-set_other, drop-cons}
use Rattle.numbers.specs.Choice.{pick}
use Rattle.rows.specs.Words.{most_fields}
use Rattle.rows.specs.Tables.{column_row, columns_in}
use Rattle.rows.specs.declared.ColumnRow.{ColumnRow}
use Rattle.totals.specs.Totals.{agrees, total_of, counts, field_agrees, totals}
use Rattle.std.specs.Prelude.{Some, None}
use Rattle.rows.proofs.FirstRows.{rows_length, row_at}

-- a field without columns, or columns without sums, agree
no_columns_lem : (entries f : ℕ) (cs : List ColumnRow) (sums : List ℕ) → (cs ≡ []) ⊎ (sums ≡ []) → total_of entries f cs sums ≡ true
unfolding total_of
no_columns_lem entries f cs sums w = ⊎_elim (λ e. rw e (none sums)) (λ e. rw e (short cs)) w
  where
    none : (sums : List ℕ) → total_of entries f [] sums ≡ true
    none sums = refl

    short : (cs : List ColumnRow) → total_of entries f cs [] ≡ true
    short [] = refl
    short (c ∷ cs) = refl

-- after the columns from i on: the mark of each field is that of its first column there
pub record Noted (entries : ℕ) (table : List ℕ) (n : ℕ) (sums : List ℕ) (i : ℕ) (marks : List Bool) : Type 0 where
  pub most : (i ≤ n) × (i ≤ length sums)
  pub long : length marks ≡ most_fields
  pub marks_are : (f : ℕ) → f < most_fields → get_or marks f false ≡ total_of entries f (drop i (columns_in table n)) (drop i sums)

module _ {entries : ℕ} {table : List ℕ} {n : ℕ} {sums : List ℕ} where
  -- past the last column, or past the last sum
  pub noted_none : {i : ℕ} → i ≡ min n (length sums) → Noted entries table n sums i (replicate most_fields true)
  noted_none {i} e =
      let l = rows_length column_row table n in
      let past : (drop i (columns_in table n) ≡ []) ⊎ (drop i sums ≡ [])
      = elim (dec_le n (length sums)) [
        | yes h ↦ inl (drop_of_length-le (columns_in table n) {i = i} (omega arith))
        | no h ↦ inr (drop_of_length-le sums {i = i} (omega arith))
      ] in
      record {
        most = (omega arith, omega arith);
        long = refl;
        marks_are = λ f h. get_or-replicate most_fields f true false h ∙ sym (no_columns_lem entries f (drop i (columns_in table n)) (drop i sums) past);
      }

  module _ {i : ℕ} {marks : List Bool} (m : Noted entries table n sums i marks) (more : 0 < i) where
    -- one column before them
    its : (d : ColumnRow) → drop (i - 1) (columns_in table n) ≡ column_row table (i - 1) ∷ drop i (columns_in table n)
    its d =
        let l = rows_length column_row table n in
        let a = m.most in
        let e : suc (i - 1) ≡ i = omega arith in
        drop-cons (columns_in table n) (i - 1) d (omega arith)
        ∙ (λ j. row_at column_row table n (i - 1) d (omega arith) j ∷ drop (e j) (columns_in table n))

    its_sum : drop (i - 1) sums ≡ get_or sums (i - 1) 0 ∷ drop i sums
    its_sum =
        let a = m.most in
        let e : suc (i - 1) ≡ i = omega arith in
        drop-cons sums (i - 1) 0 (omega arith) ∙ ap (λ (k : ℕ). get_or sums (i - 1) 0 ∷ drop k sums) e

    first : (f : ℕ) → total_of entries f (drop (i - 1) (columns_in table n)) (drop (i - 1) sums)
        ≡ pick (eqb (column_row table (i - 1)).field.0 f) (agrees entries (column_row table (i - 1)).column_type (get_or sums (i - 1) 0)) (total_of entries f (drop i (columns_in table n)) (drop i sums))
    unfolding total_of
    first f = λ j. total_of entries f (its (column_row table 0) j) (its_sum j)

    below : (i - 1 ≤ n) × (i - 1 ≤ length sums)
    below = let a = m.most in (omega arith, omega arith)

    -- its field is none of those that are marked
    pub noted_other : most_fields ≤ (column_row table (i - 1)).field.0 → Noted entries table n sums (i - 1) marks
    noted_other high =
        record {
          most = below;
          long = m.long;
          marks_are = λ f h. m.marks_are f h ∙ sym (first f ∙ past f h (eqb (column_row table (i - 1)).field.0 f) refl _ _);
        }
      where
        past : (f : ℕ) → f < most_fields → (b : Bool) → eqb (column_row table (i - 1)).field.0 f ≡ b → (x y : Bool) → pick b x y ≡ y
        past f h true e x y = absurd (let same = eqb-true (column_row table (i - 1)).field.0 f e in omega arith)
        past f h false e x y = refl

    pub noted_more : {v : Bool} → (column_row table (i - 1)).field.0 < most_fields → v ≡ agrees entries (column_row table (i - 1)).column_type (get_or sums (i - 1) 0)
        → Noted entries table n sums (i - 1) (set marks (column_row table (i - 1)).field.0 v)
    noted_more {v} low is =
        record {
          most = below;
          long = length-set marks (column_row table (i - 1)).field.0 v ∙ m.long;
          marks_are = λ f h. by (column_row table (i - 1)).field.0 f (eqb (column_row table (i - 1)).field.0 f) refl low _ _ is (m.marks_are f h) ∙ sym (first f);
        }
      where
        by : (field f : ℕ) (b : Bool) → eqb field f ≡ b → field < most_fields → (x y : Bool) → v ≡ x → get_or marks f false ≡ y → get_or (set marks field v) f false ≡ pick b x y
        by field f true e l x y p q =
            let same = eqb-true field f e in
            let long = m.long in
            subst (λ (k : ℕ). get_or (set marks field v) k false ≡ x) same (get_or-set_same marks field v false (omega arith) ∙ p)
        by field f false e l x y p q = get_or-set_other marks field f v false (λ s. eqb-false field f e (sym s)) ∙ q

  pub noted_all : {i : ℕ} {marks : List Bool} → Noted entries table n sums i marks → i ≤ 0 → (f : ℕ) → f < most_fields → get_or marks f false ≡ total_of entries f (columns_in table n) sums
  noted_all {i} {marks} m h f l =
      let z : i ≡ 0 = omega arith in
      subst (λ (k : ℕ). get_or marks f false ≡ total_of entries f (drop k (columns_in table n)) (drop k sums)) z (m.marks_are f l)

-- fields without parents or without flags agree
no_fields : (entries : ℕ) (cs : List ColumnRow) (sums : List ℕ) (i : ℕ) (parents flags : List ℕ) → (parents ≡ []) ⊎ (flags ≡ []) → totals entries cs sums i parents flags ≡ None
unfolding totals
no_fields entries cs sums i parents flags w = ⊎_elim (λ e. rw e (none flags)) (λ e. rw e (short parents)) w
  where
    none : (flags : List ℕ) → totals entries cs sums i [] flags ≡ None
    none flags = refl

    short : (parents : List ℕ) → totals entries cs sums i parents [] ≡ None
    short [] = refl
    short (p ∷ parents) = refl

-- the fields below f have passed: what is left decides
pub record Passed (entries : ℕ) (cs : List ColumnRow) (sums parents flags : List ℕ) (f : ℕ) : Type 0 where
  pub below : (f ≤ length parents) × (f ≤ length flags)
  pub same : totals entries cs sums 0 (take most_fields parents) flags ≡ totals entries cs sums f (drop f (take most_fields parents)) (drop f flags)

module _ {entries : ℕ} {cs : List ColumnRow} {sums parents flags : List ℕ} where
  pub passed_none : Passed entries cs sums parents flags 0
  passed_none = record { below = (omega arith, omega arith); same = refl }

  module _ {f : ℕ} (m : Passed entries cs sums parents flags f) (few : f < most_fields) (inside : (f < length parents) × (f < length flags))
      (mark : Bool) {t : Bool} (marked : mark ≡ total_of entries f cs sums) (is : t ≡ pick (counts f (get_or parents f 0) (get_or flags f 0)) mark true) where
    parent : drop f (take most_fields parents) ≡ get_or parents f 0 ∷ drop (suc f) (take most_fields parents)
    parent =
        drop-cons (take most_fields parents) f 0 (omega (arith, length-take most_fields parents, few, inside))
        ∙ ap (λ (x : ℕ). x ∷ drop (suc f) (take most_fields parents)) (get_or-take most_fields parents f 0 few)

    good : field_agrees entries cs sums f (get_or parents f 0) (get_or flags f 0) ≡ t
    good = sym (is ∙ ap (λ (b : Bool). pick (counts f (get_or parents f 0) (get_or flags f 0)) b true) marked)

    one : totals entries cs sums 0 (take most_fields parents) flags
        ≡ pick t (totals entries cs sums (suc f) (drop (suc f) (take most_fields parents)) (drop (suc f) flags)) (Some (record { 0 = f }))
    unfolding totals
    one =
        m.same ∙ (λ j. totals entries cs sums f (parent j) (drop-cons flags f 0 inside.1 j))
        ∙ ap (λ (b : Bool). pick b (totals entries cs sums (suc f) (drop (suc f) (take most_fields parents)) (drop (suc f) flags)) (Some (record { 0 = f }))) good

    pub passed_more : t ≡ true → Passed entries cs sums parents flags (f + 1)
    passed_more w =
        record {
          below = (omega arith, omega arith);
          same = one ∙ (λ j. pick (w j) (totals entries cs sums (sym (add-one f) j) (drop (sym (add-one f) j) (take most_fields parents)) (drop (sym (add-one f) j) flags)) (Some (record { 0 = f })));
        }

    pub passed_not : t ≡ false → Some (record { 0 = f }) ≡ totals entries cs sums 0 (take most_fields parents) flags
    passed_not w = sym (one ∙ ap (λ (b : Bool). pick b (totals entries cs sums (suc f) (drop (suc f) (take most_fields parents)) (drop (suc f) flags)) (Some (record { 0 = f }))) w)

  -- no field is left
  pub passed_all : {f : ℕ} → Passed entries cs sums parents flags f → min (min (length parents) (length flags)) most_fields ≤ f → None ≡ totals entries cs sums 0 (take most_fields parents) flags
  passed_all {f} m h =
      let short : (drop f (take most_fields parents) ≡ []) ⊎ (drop f flags ≡ [])
      = elim (dec_le (length flags) f) [
        | yes l ↦ inr (drop_of_length-le flags {i = f} l)
        | no l ↦ inl (drop_of_length-le (take most_fields parents) {i = f} (omega (arith, length-take most_fields parents)))
      ] in
      sym (m.same ∙ no_fields entries cs sums f (drop f (take most_fields parents)) (drop f flags) short)
