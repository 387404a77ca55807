-- Figures added to the words of a report, one word after the other.
-- Assumes nothing.
use Prim.Native.Nat.{ℕ, zero, suc, ◌+◌, ◌^◌, ◌<◌, ◌≤◌}
use mathlib.Core.Path.{◌≡◌, refl, sym, ap, ◌∙◌}
use mathlib.Core.Bool.{true, false}
use mathlib.Core.List.{List, [], ◌∷◌}
use native.Mathlib.Numerals.{add-one}
use native.Mathlib.Omega.{arith}
use borrow.Author.Tests.{ltb-true, lt-ltb}
use lib.Dec.{ltb}
use lib.ListN.{length, get_or, take, set}
use lib.Seq.{take_all}
use Rattle.numbers.specs.Choice.{both}
use Rattle.numbers.proofs.Choice.{both_true, both_assoc, both_right, is_false}
use Rattle.figure_rules.specs.Report.{added, sums_fit}

-- all words

pub added_length : (xs old : List ℕ) → length (added xs old) ≡ length old
unfolding added
added_length [] old = refl
added_length (x ∷ xs) [] = refl
added_length (x ∷ xs) (y ∷ ys) = ap suc (added_length xs ys)

pub added_at : (xs old : List ℕ) (k : ℕ) → k < length old → get_or (added xs old) k 0 ≡ get_or old k 0 + get_or xs k 0
unfolding added
added_at [] old k h = omega arith
added_at (x ∷ xs) [] k h = absurd (omega arith)
added_at (x ∷ xs) (y ∷ ys) zero h = refl
added_at (x ∷ xs) (y ∷ ys) (suc k) h = added_at xs ys k (omega arith)

-- a sum of those that fit
pub fits_at : (xs old : List ℕ) (i : ℕ) → i < length xs → length xs ≤ length old → sums_fit xs old ≡ true → get_or old i 0 + get_or xs i 0 < 2 ^ 64
unfolding sums_fit
fits_at [] old i h l e = absurd (omega arith)
fits_at (x ∷ xs) [] i h l e = absurd (omega arith)
fits_at (x ∷ xs) (y ∷ ys) zero h l e = ltb-true (y + x) (2 ^ 64) (both_true (ltb (y + x) (2 ^ 64)) (sums_fit xs ys) e).0
fits_at (x ∷ xs) (y ∷ ys) (suc i) h l e = fits_at xs ys i (omega arith) (omega arith) (both_true (ltb (y + x) (2 ^ 64)) (sums_fit xs ys) e).1

-- a loop that has added the first i words

pub added_none : (xs old : List ℕ) → added (take 0 xs) old ≡ old
unfolding added
added_none xs old = refl

-- word i is still what it was
pub added_rest : (xs old : List ℕ) (i : ℕ) → i < length old → get_or (added (take i xs) old) i 0 ≡ get_or old i 0
unfolding added
added_rest [] old zero h = refl
added_rest [] old (suc i) h = refl
added_rest (x ∷ xs) [] i h = absurd (omega arith)
added_rest (x ∷ xs) (y ∷ ys) zero h = refl
added_rest (x ∷ xs) (y ∷ ys) (suc i) h = added_rest xs ys i (omega arith)

one_more : (xs old : List ℕ) (i : ℕ) → i < length xs → i < length old
    → set (added (take i xs) old) i (get_or (added (take i xs) old) i 0 + get_or xs i 0) ≡ added (take (suc i) xs) old
unfolding added
one_more [] old i h l = absurd (omega arith)
one_more (x ∷ xs) [] i h l = absurd (omega arith)
one_more (x ∷ xs) (y ∷ ys) zero h l = refl
one_more (x ∷ xs) (y ∷ ys) (suc i) h l = ap (λ (zs : List ℕ). (y + x) ∷ zs) (one_more xs ys i (omega arith) (omega arith))

module _ (xs old : List ℕ) {now : List ℕ} (i : ℕ) (so_far : now ≡ added (take i xs) old) where
  pub added_more : i < length xs → i < length old → set now i (get_or now i 0 + get_or xs i 0) ≡ added (take (i + 1) xs) old
  added_more h l = rw (so_far, add-one i) (one_more xs old i h l)

  pub added_all : length xs ≤ i → now ≡ added xs old
  added_all h = so_far ∙ ap (λ (zs : List ℕ). added zs old) (take_all i xs h)

-- a loop that has seen that the first i sums fit

pub fits_none : (xs old : List ℕ) → sums_fit (take 0 xs) old ≡ true
unfolding sums_fit
fits_none xs old = refl

fits_suc : (xs old : List ℕ) (i : ℕ) → i < length xs → i < length old
    → sums_fit (take (suc i) xs) old ≡ both (sums_fit (take i xs) old) (ltb (get_or old i 0 + get_or xs i 0) (2 ^ 64))
unfolding sums_fit
fits_suc [] old i h l = absurd (omega arith)
fits_suc (x ∷ xs) [] i h l = absurd (omega arith)
fits_suc (x ∷ xs) (y ∷ ys) zero h l = both_right (ltb (y + x) (2 ^ 64))
fits_suc (x ∷ xs) (y ∷ ys) (suc i) h l =
    ap (both (ltb (y + x) (2 ^ 64))) (fits_suc xs ys i (omega arith) (omega arith))
    ∙ sym (both_assoc (ltb (y + x) (2 ^ 64)) (sums_fit (take i xs) ys) (ltb (get_or ys i 0 + get_or xs i 0) (2 ^ 64)))

module _ (xs old : List ℕ) (i : ℕ) where
  pub fits_more : sums_fit (take i xs) old ≡ true → i < length xs → i < length old → get_or old i 0 + get_or xs i 0 < 2 ^ 64 → sums_fit (take (i + 1) xs) old ≡ true
  fits_more so_far h l small = rw (add-one i, fits_suc xs old i h l, so_far, lt-ltb (get_or old i 0 + get_or xs i 0) (2 ^ 64) small) refl

  pub fits_all : sums_fit (take i xs) old ≡ true → length xs ≤ i → sums_fit xs old ≡ true
  fits_all so_far h = ap (λ (zs : List ℕ). sums_fit zs old) (sym (take_all i xs h)) ∙ so_far

  -- one that does not fit is enough
  pub fits_not : i < length xs → length xs ≤ length old → 2 ^ 64 ≤ get_or old i 0 + get_or xs i 0 → sums_fit xs old ≡ false
  fits_not h l large = is_false (sums_fit xs old) (λ e. omega (arith, fits_at xs old i h l e))
