-- The front of a table: its rows do not depend on what stands behind them.
-- Assumes nothing.
use Prim.Native.Nat.{ℕ, zero, suc, ◌*◌, ◌<◌, ◌≤◌}
use mathlib.Core.Path.{◌≡◌, refl, sym, ap, ◌∙◌}
use mathlib.Core.Bool.{Bool, true, false}
use mathlib.Core.List.{List, [], ◌∷◌, ◌++◌}
use native.Mathlib.Nat.{mul_comm, mul-suc, mul-le-mul_left, le-div_iff_mul-le}
use native.Mathlib.Omega.{arith}
use lib.Dec.{leb}
use lib.ListN.{length, take, drop, length-append, length-drop, take-append-drop}
use lib.Seq.{take_all, take-append-le, drop-append-le, length-take-le}
use borrow.Author.Tests.{leb-true, leb-false, lt-ltb}
use Rattle.rows.specs.Tables.{rows_in, row_words, first_rows}
use Rattle.rows.proofs.FirstRows.{rows_length}

module _ {A : Type 0} (row : List ℕ → ℕ → A) where
  pub first_take : (table : List ℕ) (n m : ℕ) → n ≤ m → take n (first_rows row table m) ≡ first_rows row table n
  unfolding first_rows
  first_take table zero m h = refl
  first_take table (suc n) zero h = absurd (omega arith)
  first_take table (suc n) (suc m) h = by (first_take table (suc n) m) (leb (suc n) m) refl
    where
      by : (suc n ≤ m → take (suc n) (first_rows row table m) ≡ first_rows row table (suc n)) → (b : Bool) → leb (suc n) m ≡ b
          → take (suc n) (first_rows row table (suc m)) ≡ first_rows row table (suc n)
      by earlier true e =
          let l = leb-true (suc n) m e in
          let c = rows_length row table m in
          take-append-le (suc n) (first_rows row table m) (row table m ∷ []) (omega arith) ∙ earlier l
      by earlier false e =
          let l = leb-false (suc n) m e in
          let same : suc m ≡ suc n = omega arith in
          let c = rows_length row table (suc m) in
          take_all (suc n) (first_rows row table (suc m)) (omega arith) ∙ ap (first_rows row table) same

  pub first_same : (a b : List ℕ) (n : ℕ) → ((i : ℕ) → i < n → row a i ≡ row b i) → first_rows row a n ≡ first_rows row b n
  unfolding first_rows
  first_same a b zero same = refl
  first_same a b (suc n) same = rw (first_same a b n (λ i h. same i (omega arith)), same n (omega arith))

module _ (width n : ℕ) (table rest : List ℕ) (some : 0 < width) (there : n ≤ rows_in width table) where
  abbrev front : List ℕ
  front = take (width * n) table

  front_long : length front ≡ width * n
  front_long = length-take-le (width * n) table (let a = (le-div_iff_mul-le {k = width} {x = n} {y = length table} some).0 there in omega (arith, mul_comm n width))

  pub rows_with : n ≤ rows_in width (front ++ rest)
  rows_with = (le-div_iff_mul-le {k = width} {x = n} {y = length (front ++ rest)} some).1 (omega (arith, mul_comm n width, length-append front rest, front_long))

  -- a row of the front, whatever stands behind it
  row_words_lem : (i : ℕ) (behind : List ℕ) → i < n → take width (drop (width * i) (front ++ behind)) ≡ take width (drop (width * i) front)
  row_words_lem i behind h =
      let more : width * suc i ≤ width * n = mul-le-mul_left width h in
      let step = mul-suc width i in
      let long = front_long in
      let cut = length-drop (width * i) front in
      ap (take width) (drop-append-le (width * i) front behind (omega arith)) ∙ take-append-le width (drop (width * i) front) behind (omega arith)

  pub front_row : (i : ℕ) → i < n → row_words width (front ++ rest) i ≡ row_words width table i
  unfolding row_words
  front_row i h =
      let with = rows_with in
      rw (lt-ltb i (rows_in width (front ++ rest)) (omega arith), lt-ltb i (rows_in width table) (omega arith))
      (row_words_lem i rest h ∙ sym (row_words_lem i (drop (width * n) table) h) ∙ ap (λ (l : List ℕ). take width (drop (width * i) l)) (take-append-drop (width * n) table))
