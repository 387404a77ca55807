-- A byte joined to a word by its bits is the word with that byte replaced.
-- Assumes nothing.
use mathlib.Core.Path.{◌≡◌, refl, sym, ap, ap₂, ◌∙◌, subst}
use Prim.Native.Nat.{ℕ, zero, suc, ◌+◌, ◌*◌, ◌-◌, ◌/◌, ◌%◌, ◌^◌, ◌<◌, ◌≤◌}
use native.Mathlib.Nat.{pow-suc, mul_comm, mul_assoc, add-mul, one-mul, add-zero, mod-lt, mod-mod, mod-eq_of_lt, div-add-mod', div-div-eq-div-mul, div-lt_iff_lt-mul, add-mul-mod_self_left, add-mul-div_left, div-eq_of_lt, zero-add, mul-le-mul_right}
use native.Mathlib.Omega.{arith}
use lib.Bits.{bit_and, bit_or, and_block, and_mask, and_high, or_block, or_shifted, or_zero_r}
use lib.Pow.{pow-add, pow_pos, pow-lt}
use borrow.Author.Tests.{lt-ltb, le-ltb}
use Rattle.planes.specs.Plane.{with_byte}
use Rattle.planes.specs.Join.{others, joins}

pub bytes_power : (k : ℕ) → 256 ^ k ≡ 2 ^ (8 * k)
bytes_power zero = refl
bytes_power (suc k) =
    let e : 8 * suc k ≡ 8 * k + 8 = omega arith in
    pow-suc 256 k ∙ ap (λ (m : ℕ). m * 256) (bytes_power k) ∙ sym (pow-add 2 (8 * k) 8) ∙ ap (λ (i : ℕ). 2 ^ i) (sym e)

-- the definition, where the number has that byte and where it has not

pub with_byte_there : (k p b x : ℕ) → p < k → with_byte k p b x ≡ x % 256 ^ p + 256 ^ p * (b + 256 * (x / 256 ^ p / 256))
unfolding with_byte
with_byte_there k p b x h = rw (lt-ltb p k h)

pub with_byte_missing : (k p b x : ℕ) → k ≤ p → with_byte k p b x ≡ x
unfolding with_byte
with_byte_missing k p b x h = rw (le-ltb p k h)

pub power_positive : (k : ℕ) → 0 < 256 ^ k
power_positive k = subst (λ (m : ℕ). 0 < m) (sym (bytes_power k)) (pow_pos (8 * k))

-- a number by what is below the byte and what is not
pub with_byte_over : (k p b low high : ℕ) → p < k → low < 256 ^ p → with_byte k p b (low + 256 ^ p * high) ≡ low + 256 ^ p * (b + 256 * (high / 256))
with_byte_over k p b low high there h =
    let u : ℕ = 256 ^ p in
    with_byte_there k p b (low + u * high) there
    ∙ ap₂ (λ (r d : ℕ). r + u * (b + 256 * (d / 256))) (add-mul-mod_self_left low u high ∙ mod-eq_of_lt h)
    (add-mul-div_left low high (power_positive p) ∙ ap (λ (x : ℕ). x + high) (div-eq_of_lt h) ∙ zero-add high)

-- the unit of plane p

pub unit_is : (p : ℕ) → p < 8 → 1 * 2 ^ (8 * p) % 2 ^ 64 ≡ 256 ^ p
unit_is p h =
    let l : 8 * p < 64 = omega arith in
    ap (λ (x : ℕ). x % 2 ^ 64) (one-mul (2 ^ (8 * p))) ∙ mod-eq_of_lt (pow-lt {j = 64} l) ∙ sym (bytes_power p)

-- a word's bits by blocks: those below the byte, its own eight, and those above

module _ (p : ℕ) (small : p < 8) where
  abbrev v : ℕ
  v = 2 ^ (8 * p)

  abbrev j : ℕ
  j = 56 - 8 * p

  all_bits : 2 ^ (j + 8) * v ≡ 2 ^ 64
  all_bits =
      let e : j + 8 + 8 * p ≡ 64 = omega arith in
      sym (pow-add 2 (j + 8) (8 * p)) ∙ ap (λ (i : ℕ). 2 ^ i) e

  upper_bits : 2 ^ (j + 8) ≡ 2 ^ j * 256
  upper_bits = pow-add 2 j 8

  pub unit_fits : 256 * 256 ^ p ≤ 2 ^ 64
  unit_fits =
      let a = all_bits in
      let o = pow_pos j in
      let m : 2 ^ (j + 8) * v ≡ 2 ^ j * (256 * v) = ap (λ (x : ℕ). x * v) upper_bits ∙ mul_assoc (2 ^ j) 256 v in
      let l : 1 * (256 * v) ≤ 2 ^ j * (256 * v) = mul-le-mul_right (256 * v) o in
      subst (λ (u : ℕ). 256 * u ≤ 2 ^ 64) (sym (bytes_power p)) (omega arith)

  -- the bits that stay
  kept : others v ≡ (2 ^ (j + 8) - 256) * v + (v - 1)
  kept =
      let a = all_bits in
      let o = pow_pos (8 * p) in
      let c : 256 ≤ 2 ^ (j + 8) = subst (λ (x : ℕ). 256 ≤ x) (sym upper_bits) (omega (arith, pow_pos j)) in
      let d : ℕ = 2 ^ (j + 8) - 256 in
      let s : d + 256 ≡ 2 ^ (j + 8) = omega arith in
      let t : d * v + 256 * v ≡ 2 ^ 64 = sym (add-mul d 256 v) ∙ ap (λ (x : ℕ). x * v) s ∙ a in
      omega arith

  module _ (b w : ℕ) (byte : b < 256) (word : w < 2 ^ 64) where
    abbrev h : ℕ
    h = w / v / 256

    above : h < 2 ^ j
    above =
        let o = pow_pos (8 * p) in
        let e : 2 ^ j * (v * 256) ≡ 2 ^ 64 =
        ap (λ (x : ℕ). 2 ^ j * x) (mul_comm v 256) ∙ sym (mul_assoc (2 ^ j) 256 v) ∙ ap (λ (x : ℕ). x * v) (sym upper_bits) ∙ all_bits in
        let q : 0 < v * 256 = omega arith in
        subst (λ (x : ℕ). x < 2 ^ j) (sym (div-div-eq-div-mul w v 256))
        ((div-lt_iff_lt-mul {x = w} {y = 2 ^ j} q).1 (subst (λ (x : ℕ). w < x) (sym e) word))

    staying : bit_and w (others v) ≡ h * 256 * v + w % v
    staying =
        let o = pow_pos (8 * p) in
        let low : v - 1 < v = omega arith in
        ap₂ bit_and (sym (div-add-mod' w v)) kept
        ∙ and_block (8 * p) (w / v) (2 ^ (j + 8) - 256) (w % v) (v - 1) (mod-lt w o) low
        ∙ ap₂ (λ (x y : ℕ). x * v + y) (and_high (w / v) j 8 ∙ ap (λ (x : ℕ). x * 256) (mod-eq_of_lt above)) (and_mask (w % v) (8 * p) ∙ mod-mod w v)

    joined : bit_or (h * 256 * v + w % v) (b * v) ≡ (h * 256 + b) * v + w % v
    joined =
        let o = pow_pos (8 * p) in
        ap (bit_or (h * 256 * v + w % v)) (sym (add-zero (b * v)))
        ∙ or_block (8 * p) (h * 256) b (w % v) 0 (mod-lt w o) o
        ∙ ap₂ (λ (x y : ℕ). x * v + y) (or_shifted h 8 b byte) (or_zero_r (w % v))

    joined_is_with : joins v (others v) b w ≡ w % v + v * (b + 256 * h)
    joined_is_with =
        let s : (h * 256 + b) * v ≡ v * (b + 256 * h) = mul_comm (h * 256 + b) v ∙ ap (λ (x : ℕ). v * x) (omega arith) in
        ap (λ (x : ℕ). bit_or x (b * v)) staying ∙ joined ∙ omega arith

pub joins_with_byte : (p b w : ℕ) → p < 8 → b < 256 → w < 2 ^ 64 → joins (256 ^ p) (others (256 ^ p)) b w ≡ with_byte 8 p b w
joins_with_byte p b w small byte word =
    subst (λ (u : ℕ). joins u (others u) b w ≡ w % u + u * (b + 256 * (w / u / 256))) (sym (bytes_power p)) (joined_is_with p small b w byte word)
    ∙ sym (with_byte_there 8 p b w small)
