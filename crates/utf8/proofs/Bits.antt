-- The bytes of a scalar value, by their number, and the value of such bytes.
use Prim.Native.Nat.{ℕ, ◌+◌, ◌-◌, ◌*◌, ◌/◌, ◌%◌, ◌≤◌, ◌<◌}
use mathlib.Core.Path.{◌≡◌, refl}
use mathlib.Core.Bool.{Bool, true, false}
use mathlib.Core.List.{List, [], ◌∷◌}
use native.Mathlib.Omega.{arith}
use lib.Dec.{leb, ltb}
use borrow.Author.Tests.{leb-true, le-leb, lt-leb, ltb-true, ltb-false, lt-ltb, le-ltb}
use Rattle.numbers.specs.Choice.{pick, both}
use Rattle.utf8.specs.Scalars.{scalar, encoded}

-- scalar values: below the surrogates, or above them

pub scalar_low : (c : ℕ) → c ≤ 0xD7FF → scalar c ≡ true
scalar_low c h = rw (le-leb c 0xD7FF h)

pub scalar_high : (c : ℕ) → 0xE000 ≤ c → c ≤ 0x10FFFF → scalar c ≡ true
scalar_high c h g = rw (lt-leb c 0xD7FF (omega arith), le-leb 0xE000 c h, le-leb c 0x10FFFF g)

pub record Scalar (c : ℕ) : Type 0 where
  pub most : c ≤ 0x10FFFF
  pub between : c < 0xE000 → c ≤ 0xD7FF

pub scalar_is : (c : ℕ) → scalar c ≡ true → Scalar c
scalar_is c e = by (leb c 0xD7FF) refl (leb 0xE000 c) refl (leb c 0x10FFFF) refl e
  where
    by : (p : Bool) → leb c 0xD7FF ≡ p → (q : Bool) → leb 0xE000 c ≡ q → (r : Bool) → leb c 0x10FFFF ≡ r → pick p true (both q r) ≡ true → Scalar c
    by true f q g r h e = let l = leb-true c 0xD7FF f in record { most = omega arith; between = λ _. l }
    by false f true g true h e =
        let l = leb-true 0xE000 c g in
        let m = leb-true c 0x10FFFF h in
        record { most = m; between = λ k. absurd (omega arith) }
    by false f true g false h e = let z : ◌≡◌ {A = ℕ} 0 1 = cc in absurd (omega arith)
    by false f false g r h e = let z : ◌≡◌ {A = ℕ} 0 1 = cc in absurd (omega arith)

-- the encoding, by the number of its bytes
module _ (c : ℕ) where
  pub encoded_one : c < 0x80 → encoded c ≡ c ∷ []
  unfolding encoded
  encoded_one h = rw (lt-ltb c 0x80 h)

  pub encoded_two : 0x80 ≤ c → c < 0x800 → encoded c ≡ (0xC0 + c / 64) ∷ (0x80 + c % 64) ∷ []
  unfolding encoded
  encoded_two h g = rw (le-ltb c 0x80 h, lt-ltb c 0x800 g)

  pub encoded_three : 0x800 ≤ c → c < 0x10000 → encoded c ≡ (0xE0 + c / 4096) ∷ (0x80 + c / 64 % 64) ∷ (0x80 + c % 64) ∷ []
  unfolding encoded
  encoded_three h g = rw (le-ltb c 0x80 (omega arith), le-ltb c 0x800 h, lt-ltb c 0x10000 g)

  pub encoded_four : 0x10000 ≤ c → encoded c ≡ (0xF0 + c / 262144) ∷ (0x80 + c / 4096 % 64) ∷ (0x80 + c / 64 % 64) ∷ (0x80 + c % 64) ∷ []
  unfolding encoded
  encoded_four h = rw (le-ltb c 0x80 (omega arith), le-ltb c 0x800 (omega arith), le-ltb c 0x10000 h)

  -- what holds of each number of bytes holds of the encoding
  pub by_size : (P : List ℕ → Type 0)
      → (c < 0x80 → P (c ∷ []))
      → (0x80 ≤ c → c < 0x800 → P ((0xC0 + c / 64) ∷ (0x80 + c % 64) ∷ []))
      → (0x800 ≤ c → c < 0x10000 → P ((0xE0 + c / 4096) ∷ (0x80 + c / 64 % 64) ∷ (0x80 + c % 64) ∷ []))
      → (0x10000 ≤ c → P ((0xF0 + c / 262144) ∷ (0x80 + c / 4096 % 64) ∷ (0x80 + c / 64 % 64) ∷ (0x80 + c % 64) ∷ []))
      → P (encoded c)
  by_size P one two three four = by (ltb c 0x80) refl (ltb c 0x800) refl (ltb c 0x10000) refl
    where
      by : (p : Bool) → ltb c 0x80 ≡ p → (q : Bool) → ltb c 0x800 ≡ q → (r : Bool) → ltb c 0x10000 ≡ r → P (encoded c)
      by true e q f r g = let h = ltb-true c 0x80 e in rw (encoded_one h) (one h)
      by false e true f r g =
          let h = ltb-false c 0x80 e in
          let k = ltb-true c 0x800 f in
          rw (encoded_two h k) (two h k)
      by false e false f true g =
          let h = ltb-false c 0x800 f in
          let k = ltb-true c 0x10000 g in
          rw (encoded_three h k) (three h k)
      by false e false f false g = let h = ltb-false c 0x10000 g in rw (encoded_four h) (four h)

-- the value of two, three and four bytes
abbrev pub two : ℕ → ℕ → ℕ
two b x = (b - 0xC0) * 64 + (x - 0x80)

abbrev pub three : ℕ → ℕ → ℕ → ℕ
three b x y = (b - 0xE0) * 4096 + (x - 0x80) * 64 + (y - 0x80)

abbrev pub four : ℕ → ℕ → ℕ → ℕ → ℕ
four b x y z = (b - 0xF0) * 262144 + (x - 0x80) * 4096 + (y - 0x80) * 64 + (z - 0x80)

module _ (c : ℕ) where
  pub two_is : two (0xC0 + c / 64) (0x80 + c % 64) ≡ c
  two_is = omega arith

  pub three_is : three (0xE0 + c / 4096) (0x80 + c / 64 % 64) (0x80 + c % 64) ≡ c
  three_is = omega arith

  pub four_is : four (0xF0 + c / 262144) (0x80 + c / 4096 % 64) (0x80 + c / 64 % 64) (0x80 + c % 64) ≡ c
  four_is =
      let h : c / 262144 * 64 + c / 4096 % 64 ≡ c / 4096 = omega arith in
      let g : c / 4096 * 64 + c / 64 % 64 ≡ c / 64 = omega arith in
      let k : c / 64 * 64 + c % 64 ≡ c = omega arith in
      omega arith

-- bytes that are the encoding of their value
module _ (b x : ℕ) (hx : 0x80 ≤ x) (gx : x ≤ 0xBF) where
  pub two_bytes : 0xC2 ≤ b → b ≤ 0xDF → encoded (two b x) ≡ b ∷ x ∷ []
  two_bytes h g =
      let p : 0xC0 + two b x / 64 ≡ b = omega arith in
      let q : 0x80 + two b x % 64 ≡ x = omega arith in
      rw (encoded_two (two b x) (omega arith) (omega arith), p, q)

  module _ (y : ℕ) (hy : 0x80 ≤ y) (gy : y ≤ 0xBF) where
    pub three_bytes : 0xE0 ≤ b → b ≤ 0xEF → 0x800 ≤ three b x y → encoded (three b x y) ≡ b ∷ x ∷ y ∷ []
    three_bytes h g k =
        let p : 0xE0 + three b x y / 4096 ≡ b = omega arith in
        let q : 0x80 + three b x y / 64 % 64 ≡ x = omega arith in
        let r : 0x80 + three b x y % 64 ≡ y = omega arith in
        rw (encoded_three (three b x y) k (omega arith), p, q, r)

    pub four_bytes : (z : ℕ) → 0x80 ≤ z → z ≤ 0xBF → 0xF0 ≤ b → 0x10000 ≤ four b x y z → encoded (four b x y z) ≡ b ∷ x ∷ y ∷ z ∷ []
    four_bytes z hz gz h k =
        let p : 0xF0 + four b x y z / 262144 ≡ b = omega arith in
        let q : 0x80 + four b x y z / 4096 % 64 ≡ x = omega arith in
        let r : 0x80 + four b x y z / 64 % 64 ≡ y = omega arith in
        let t : 0x80 + four b x y z % 64 ≡ z = omega arith in
        rw (encoded_four (four b x y z) k, p, q, r, t)
