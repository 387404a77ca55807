-- A size word as a signed number of 32 bits.
use Prim.Native.Nat.{ℕ, zero, suc, ◌+◌, ◌-◌, ◌^◌, ◌≤◌, ◌<◌}
use mathlib.Core.Path.{◌≡◌, refl, ◌∙◌}
use mathlib.Core.Bool.{Bool, true, false}
use native.Mathlib.Nat.{zero-add}
use native.Mathlib.Omega.{arith}
use lib.IntN.{ℤ, pos, negsuc, nat_abs, ◌-ℤ◌}
use lib.Signed.{non_neg, lt_z}
use lib.Dec.{ltb}
use mir.Syntax.{w32}
use mir.Val.{SFits, to_z, of_z}
use mir.ValLaws.{to_z_pos, to_z-of_z, of_z-to_z}
use borrow.Author.Tests.{le-ltb, ltb-true, ltb-false}
use Rattle.numbers.proofs.Choice.{clash}

-- -1 - n and -1 - (-1 - n)
pub minus_one_pos : (n : ℕ) → negsuc 0 -ℤ pos n ≡ negsuc n
minus_one_pos zero = refl
minus_one_pos (suc n) = simp zero-add

pub minus_one_neg : (n : ℕ) → negsuc 0 -ℤ negsuc n ≡ pos n
minus_one_neg n = let e : suc n - 1 ≡ n = omega arith in simp (le-ltb (suc n) 1 (omega arith), e)

-- the negative number of a word from 2 ^ 31 on
module _ (word : ℕ) (from : 2147483648 ≤ word) (to : word < 4294967296) where
  negative : negsuc 0 -ℤ to_z w32 (4294967295 - word) ≡ negsuc (4294967295 - word)
  negative = rw (to_z_pos w32 (4294967295 - word) (omega arith)) (minus_one_pos (4294967295 - word))

  pub negative_fits : SFits w32 (negsuc 0 -ℤ to_z w32 (4294967295 - word))
  negative_fits = rw negative (record { sfits = omega arith })

  pub negative_is : of_z w32 (negsuc 0 -ℤ to_z w32 (4294967295 - word)) ≡ word
  negative_is = rw negative (omega arith)

  pub negative_non_neg : non_neg (to_z w32 word) ≡ false
  negative_non_neg = simp (le-ltb word (2 ^ 31) from)

  pub negative_size : nat_abs (to_z w32 word) ≡ 4294967296 - word
  negative_size = simp (le-ltb word (2 ^ 31) from) (omega arith)

-- the sign test on a word's signed number, and what it says of the word
module _ {z : ℤ} (word : ℕ) (is : z ≡ to_z w32 word) (to : word < 4294967296) where
  pub kept : to_z w32 (of_z w32 z) ≡ to_z w32 word
  kept = rw (is, of_z-to_z w32 word (record { fits = to }))

  negative_by : (b : Bool) → ltb word (2 ^ 31) ≡ b → lt_z (to_z w32 word) (pos 0) ≡ true → 2147483648 ≤ word
  negative_by true e t = omega (arith, ltb-true word 0 (rw (to_z_pos w32 word (ltb-true word (2 ^ 31) e)) at t))
  negative_by false e t = ltb-false word (2 ^ 31) e

  pub negative_word : lt_z (to_z w32 (of_z w32 z)) (pos 0) ≡ true → 2147483648 ≤ word
  negative_word t = negative_by (ltb word (2 ^ 31)) refl (rw kept at t)

  positive_by : (b : Bool) → ltb word (2 ^ 31) ≡ b → lt_z (to_z w32 word) (pos 0) ≡ false → word < 2147483648
  positive_by true e t = ltb-true word (2 ^ 31) e
  positive_by false e t = clash refl (simp e at t)

  pub positive_word : lt_z (to_z w32 (of_z w32 z)) (pos 0) ≡ false → to_z w32 (of_z w32 z) ≡ pos word
  positive_word t = kept ∙ to_z_pos w32 word (positive_by (ltb word (2 ^ 31)) refl (rw kept at t))

  pub positive_below : lt_z (to_z w32 (of_z w32 z)) (pos 0) ≡ false → word < 2147483648
  positive_below t = positive_by (ltb word (2 ^ 31)) refl (rw kept at t)

-- the magnitude of a negative number is one more than -1 minus it
pub record Flipped (z : ℤ) : Type 0 where
  pub n : ℕ
  pub flipped : negsuc 0 -ℤ to_z w32 (of_z w32 z) ≡ pos n
  pub again : to_z w32 (of_z w32 (pos n)) ≡ pos n
  pub size : nat_abs z ≡ n + 1
  pub small : n < 2147483648

pub flip : (z : ℤ) → SFits w32 z → non_neg z ≡ false → Flipped z
flip (pos n) f h = clash refl h
flip (negsuc n) f h =
    record {
      n = n;
      flipped = rw (to_z-of_z w32 (negsuc n) f) (minus_one_neg n);
      again = to_z-of_z w32 (pos n) (record { sfits = f.sfits });
      size = omega arith;
      small = f.sfits;
    }
