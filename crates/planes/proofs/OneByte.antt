-- A number with one byte replaced: that byte is the new one, every other byte as before. So a plane that is placed gives each number its byte.
-- Assumes nothing.
use mathlib.Core.Path.{◌≡◌, refl, sym, ap, ◌∙◌, subst}
use mathlib.Core.Bool.{Bool, true, false}
use Prim.Native.Nat.{ℕ, suc, ◌+◌, ◌*◌, ◌-◌, ◌/◌, ◌%◌, ◌^◌, ◌<◌}
use native.Mathlib.Nat.{mod-lt, mod-add-div, add-mul-div_left, div-eq_of_lt, div-div-eq-div-mul, mul_assoc, mul_comm, pow-suc, zero-add}
use native.Mathlib.Omega.{arith}
use lib.Dec.{ltb}
use lib.Pow.{pow-add}
use lib.ListN.{get_or}
use borrow.Author.Tests.{ltb-true, ltb-false}
use Rattle.planes.specs.Plane.{byte_at, with_byte, PlacesOnePlane}
use Rattle.planes.proofs.Words.{power_positive, with_byte_there, with_byte_missing}
use Rattle.planes.proofs.Joined.{length_joined, get_or_joined, get_or_behind, joined_none}

-- 256 to the power of a higher place
higher_power : (q d : ℕ) → 256 ^ (q + suc d) ≡ 256 ^ q * (256 * 256 ^ d)
higher_power q d = pow-add 256 q (suc d) ∙ ap (λ (m : ℕ). 256 ^ q * m) (pow-suc 256 d ∙ mul_comm (256 ^ d) 256)

-- what is above a place does not change the bytes below it
low_byte : (q d r z : ℕ) → byte_at (r + 256 ^ (q + suc d) * z) q ≡ byte_at r q
low_byte q d r z =
    let m : 256 ^ (q + suc d) * z ≡ 256 ^ q * (256 * (256 ^ d * z)) =
    ap (λ (x : ℕ). x * z) (higher_power q d) ∙ mul_assoc (256 ^ q) (256 * 256 ^ d) z ∙ ap (λ (x : ℕ). 256 ^ q * x) (mul_assoc 256 (256 ^ d) z) in
    let e : (r / 256 ^ q + 256 * (256 ^ d * z)) % 256 ≡ r / 256 ^ q % 256 = omega arith in
    ap (λ (x : ℕ). (r + x) / 256 ^ q % 256) m ∙ ap (λ (x : ℕ). x % 256) (add-mul-div_left r (256 * (256 ^ d * z)) (power_positive q)) ∙ e

module _ (p b w : ℕ) (small : b < 256) where
  abbrev u : ℕ
  u = 256 ^ p

  abbrev new : ℕ
  new = w % u + u * (b + 256 * (w / u / 256))

  without_low : new / u ≡ b + 256 * (w / u / 256)
  without_low =
      let z : ℕ = b + 256 * (w / u / 256) in
      add-mul-div_left (w % u) z (power_positive p) ∙ ap (λ (x : ℕ). x + z) (div-eq_of_lt (mod-lt w (power_positive p))) ∙ zero-add z

  new_byte : byte_at new p ≡ b
  new_byte =
      let h : ℕ = w / u / 256 in
      let e : (b + 256 * h) % 256 ≡ b = omega arith in
      ap (λ (x : ℕ). x % 256) without_low ∙ e

  byte_above : (d : ℕ) → byte_at new (p + suc d) ≡ byte_at w (p + suc d)
  byte_above d =
      let h : ℕ = w / u / 256 in
      let e : (b + 256 * h) / 256 ≡ h = omega arith in
      ap (λ (x : ℕ). x % 256)
      (down new ∙ ap (λ (x : ℕ). x / 256 / 256 ^ d) without_low ∙ ap (λ (x : ℕ). x / 256 ^ d) e ∙ sym (down w))
    where
      down : (x : ℕ) → x / 256 ^ (p + suc d) ≡ x / 256 ^ p / 256 / 256 ^ d
      down x =
          ap (λ (m : ℕ). x / m) (higher_power p d) ∙ sym (div-div-eq-div-mul x (256 ^ p) (256 * 256 ^ d))
          ∙ sym (div-div-eq-div-mul (x / 256 ^ p) 256 (256 ^ d))

  byte_below : (q d : ℕ) → p ≡ q + suc d → byte_at new q ≡ byte_at w q
  byte_below q d e =
      let step : (z : ℕ) → byte_at (w % u + u * z) q ≡ byte_at (w % u) q =
      λ z. ap (λ (i : ℕ). byte_at (w % u + 256 ^ i * z) q) e ∙ low_byte q d (w % u) z in
      step (b + 256 * (w / u / 256)) ∙ sym (step (w / u)) ∙ ap (λ (x : ℕ). byte_at x q) (mod-add-div w u)

  other_byte : (q : ℕ) → (q ≡ p → ⊥) → (below above : Bool) → ltb q p ≡ below → ltb p q ≡ above → byte_at new q ≡ byte_at w q
  other_byte q n true above e f =
      let h = ltb-true q p e in
      let s : p ≡ q + suc (p - suc q) = omega arith in
      byte_below q (p - suc q) s
  other_byte q n false true e f =
      let h = ltb-true p q f in
      let s : p + suc (q - suc p) ≡ q = omega arith in
      subst (λ (i : ℕ). byte_at new i ≡ byte_at w i) s (byte_above (q - suc p))
  other_byte q n false false e f =
      let h = ltb-false q p e in
      let g = ltb-false p q f in
      let s : q ≡ p = omega arith in
      absurd (n s)

-- the same of the definition

module _ (k p b x : ℕ) (there : p < k) (small : b < 256) where
  pub byte_new : byte_at (with_byte k p b x) p ≡ b
  byte_new = ap (λ (y : ℕ). byte_at y p) (with_byte_there k p b x there) ∙ new_byte p b x small

  pub byte_other : (q : ℕ) → (q ≡ p → ⊥) → byte_at (with_byte k p b x) q ≡ byte_at x q
  byte_other q n = ap (λ (y : ℕ). byte_at y q) (with_byte_there k p b x there) ∙ other_byte p b x small q n (ltb q p) (ltb p q) refl refl

pub places_one_plane : PlacesOnePlane
unfolding PlacesOnePlane
places_one_plane k p plane xs octets = (
  length_joined (with_byte k p) plane xs,
  λ i there h l.
      let e = get_or_joined (with_byte k p) plane xs i h l in
      let b : ℕ = get_or plane i 0 in
      let x : ℕ = get_or xs i 0 in (
        ap (λ (y : ℕ). byte_at y p) e ∙ byte_new k p b x there (octets i),
        λ q n. ap (λ (y : ℕ). byte_at y q) e ∙ byte_other k p b x there (octets i) q n,
      ),
  get_or_behind (with_byte k p) plane xs,
  λ h. joined_none (with_byte k p) plane xs (λ b x. with_byte_missing k p b x h),
)
