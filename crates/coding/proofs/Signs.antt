-- Signed elements as the machine has them, and their zigzag form.
-- Assumes nothing.
use mathlib.Core.Path.{◌≡◌, refl, ap, ◌∙◌, subst, subst⁻¹}
use mathlib.Core.Bool.{Bool, true, false}
use Prim.Native.Nat.{ℕ, zero, suc, ◌-◌, ◌/◌, ◌%◌, ◌^◌, ◌<◌, ◌≤◌}
use native.Mathlib.Nat.{zero-add}
use native.Mathlib.Numerals.{sub-one}
use native.Mathlib.Omega.{arith}
use lib.IntN.{ℤ, pos, negsuc, ◌-ℤ◌}
use lib.Signed.{mag, le_z}
use lib.Dec.{eqb, leb-zero}
use mir.Syntax.{w64}
use mir.Val.{SFits, to_z, of_z}
use mir.Facts.{to_z-of_z, to_z_pos}
use borrow.Author.Tests.{lt-ltb, le-ltb, eq-eqb, ne_eqb, eqb-true, eqb-false}
use Rattle.coding.specs.Signed.{from_bits, from_zigzag, Reaches}

-- -1 - v turns the sign
pub turn_pos : (n : ℕ) → negsuc 0 -ℤ pos n ≡ negsuc n
turn_pos zero = refl
turn_pos (suc n) = ap (λ (m : ℕ). negsuc (suc m)) (zero-add n)

pub turn_neg : (n : ℕ) → negsuc 0 -ℤ negsuc n ≡ pos n
turn_neg n = simp (le-ltb (suc n) 1 (omega arith)) (ap pos (sub-one (suc n)))

-- the two kinds of a signed number that fits 64 bits

pub record At-least-zero (v : ℤ) : Type 0 where
  pub size : ℕ
  pub is : v ≡ pos size
  pub fits : size < 2 ^ 63

pub record Below-zero (v : ℤ) : Type 0 where
  pub size : ℕ
  pub is : v ≡ negsuc size
  pub fits : size < 2 ^ 63

-- what a test with 0 tells, of a signed number as the machine reads it

abbrev pub read : ℤ → ℤ
read v = to_z w64 (of_z w64 v)

pub at_least_zero : (v : ℤ) → SFits w64 v → le_z (pos 0) (read v) ≡ true → At-least-zero v
at_least_zero v f e = go v f.sfits (subst (λ (z : ℤ). le_z (pos 0) z ≡ true) (to_z-of_z f) e)
  where
    go : (v : ℤ) → mag v < 2 ^ 63 → le_z (pos 0) v ≡ true → At-least-zero v
    go (pos n) h e = record { size = n; is = refl; fits = h }
    go (negsuc n) h e = absurd (let z : ◌≡◌ {A = Bool} true false = cc in let o : ◌≡◌ {A = ℕ} 0 1 = cc in omega arith)

pub below_zero : (v : ℤ) → SFits w64 v → le_z (pos 0) (read v) ≡ false → Below-zero v
below_zero v f e = go v f.sfits (subst (λ (z : ℤ). le_z (pos 0) z ≡ false) (to_z-of_z f) e)
  where
    go : (v : ℤ) → mag v < 2 ^ 63 → le_z (pos 0) v ≡ false → Below-zero v
    go (pos n) h e = absurd (let t = leb-zero n in let o : ◌≡◌ {A = ℕ} 0 1 = cc in omega arith)
    go (negsuc n) h e = record { size = n; is = refl; fits = h }

-- such a number as it is read; -1 - v of it, that it fits, and as it is read again

pub read_pos : (v : ℤ) → SFits w64 v → (p : At-least-zero v) → read v ≡ pos p.size
read_pos v f p = to_z-of_z f ∙ p.is

pub turned_fits : (v : ℤ) → SFits w64 v → (p : Below-zero v) → SFits w64 (negsuc 0 -ℤ read v)
turned_fits v f p =
    subst⁻¹ (SFits w64) (ap (λ (z : ℤ). negsuc 0 -ℤ z) (to_z-of_z f ∙ p.is) ∙ turn_neg p.size) (record { sfits = p.fits })

pub turned : (v : ℤ) (f : SFits w64 v) (p : Below-zero v) → read (negsuc 0 -ℤ read v) ≡ pos p.size
turned v f p =
    to_z-of_z (turned_fits v f p) ∙ ap (λ (z : ℤ). negsuc 0 -ℤ z) (to_z-of_z f ∙ p.is) ∙ turn_neg p.size

-- a number below 2 ^ 63 read as signed; -1 - n of it

pub read_small : (n : ℕ) → n < 2 ^ 63 → to_z w64 n ≡ pos n
read_small n h = to_z_pos w64 h

pub lowered_fits : (n : ℕ) → n < 2 ^ 63 → SFits w64 (negsuc 0 -ℤ to_z w64 n)
lowered_fits n h = subst⁻¹ (SFits w64) (ap (λ (z : ℤ). negsuc 0 -ℤ z) (read_small n h) ∙ turn_pos n) (record { sfits = h })

pub lowered : (n : ℕ) → n < 2 ^ 63 → read (negsuc 0 -ℤ to_z w64 n) ≡ negsuc n
lowered n h = to_z-of_z (lowered_fits n h) ∙ ap (λ (z : ℤ). negsuc 0 -ℤ z) (read_small n h) ∙ turn_pos n

-- each by cases

pub from_zigzag_even : (z : ℕ) → z % 2 ≡ 0 → from_zigzag z ≡ pos (z / 2)
unfolding from_zigzag
from_zigzag_even z h = simp (eq-eqb (z % 2) 0 h)

pub from_zigzag_odd : (z : ℕ) → (z % 2 ≡ 0 → ⊥) → from_zigzag z ≡ negsuc (z / 2)
unfolding from_zigzag
from_zigzag_odd z h = simp (ne_eqb (z % 2) 0 h)

pub from_bits_low : (w x : ℕ) → x < 2 ^ (w - 1) → from_bits w x ≡ pos x
unfolding from_bits
from_bits_low w x h = simp (lt-ltb x (2 ^ (w - 1)) h)

pub from_bits_high : (w x : ℕ) → 2 ^ (w - 1) ≤ x → from_bits w x ≡ negsuc (2 ^ w - 1 - x)
unfolding from_bits
from_bits_high w x h = simp (le-ltb x (2 ^ (w - 1)) h)

-- the element of a zigzag form reaches no further than its width
pub zigzag_reaches : (w z : ℕ) → z < 2 ^ w → Reaches w (from_zigzag z)
unfolding Reaches
zigzag_reaches w z hz = go (eqb (z % 2) 0) refl
  where
    go : (b : Bool) → eqb (z % 2) 0 ≡ b → Reaches w (from_zigzag z)
    go true e = subst⁻¹ (Reaches w) (from_zigzag_even z (eqb-true (z % 2) 0 e)) (let h : z / 2 < 2 ^ w = omega arith in h)
    go false e = subst⁻¹ (Reaches w) (from_zigzag_odd z (eqb-false (z % 2) 0 e)) (let h : z / 2 < 2 ^ w = omega arith in h)
