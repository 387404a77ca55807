-- The first rows of a table, one by one.
use Prim.Native.Nat.{ℕ, zero, suc, ◌+◌, ◌<◌, ◌≤◌}
use mathlib.Core.Path.{◌≡◌, refl, sym, ap, ◌∙◌}
use mathlib.Core.Bool.{Bool, true, false}
use mathlib.Core.List.{List, [], ◌∷◌, ◌++◌}
use native.Mathlib.Numerals.{add-one}
use native.Mathlib.Omega.{arith}
use borrow.Author.Tests.{ltb-true, ltb-false}
use lib.Dec.{ltb}
use lib.ListN.{length, get_or, drop, length-append, drop_of_length-le, get_or-append}
use lib.Seq.{get_or_at, drop-cons}
use Rattle.rows.specs.Tables.{first_rows}

module _ {A : Type 0} (row : List ℕ → ℕ → A) (table : List ℕ) where
  pub rows_length : (n : ℕ) → length (first_rows row table n) ≡ n
  unfolding first_rows
  rows_length zero = refl
  rows_length (suc n) = let e = rows_length n in omega (arith, length-append (first_rows row table n) (row table n ∷ []))

  pub row_at : (n k : ℕ) (d : A) → k < n → get_or (first_rows row table n) k d ≡ row table k
  unfolding first_rows
  row_at zero k d h = absurd (omega arith)
  row_at (suc n) k d h = by (row_at n k d) (ltb k n) refl
    where
      by : (k < n → get_or (first_rows row table n) k d ≡ row table k) → (b : Bool) → ltb k n ≡ b → get_or (first_rows row table n ++ (row table n ∷ [])) k d ≡ row table k
      by earlier true e =
          let l = ltb-true k n e in
          let m = rows_length n in
          get_or-append (first_rows row table n) (row table n ∷ []) d k (omega arith) ∙ earlier l
      by earlier false e =
          let l = ltb-false k n e in
          let m = rows_length n in
          let same : n ≡ k = omega arith in
          get_or_at (first_rows row table n) (row table n) [] d k (m ∙ same) ∙ ap (row table) same

  -- the rows from row i on, where there are n

  pub next_row : (n i : ℕ) → i < n → drop i (first_rows row table n) ≡ row table i ∷ drop (i + 1) (first_rows row table n)
  next_row n i h =
      let m = rows_length n in
      drop-cons (first_rows row table n) i (row table i) (omega arith) ∙ (λ j. row_at n i (row table i) h j ∷ drop (sym (add-one i) j) (first_rows row table n))

  pub no_rows : (n i : ℕ) → n ≤ i → drop i (first_rows row table n) ≡ []
  no_rows n i h = let m = rows_length n in drop_of_length-le (first_rows row table n) {i = i} (omega arith)
