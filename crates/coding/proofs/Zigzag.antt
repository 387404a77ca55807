-- Zigzag, once over the width: each way undoes the other on elements below 2 ^ w.
-- Assumes nothing.
use mathlib.Core.Path.{◌≡◌, refl, ap, ap₂}
use mathlib.Core.List.{List, [], ◌∷◌, map}
use mathlib.Core.Bool.{Bool, true, false}
use Prim.Native.Nat.{ℕ, suc, ◌+◌, ◌*◌, ◌-◌, ◌/◌, ◌%◌, ◌^◌, ◌<◌, ◌≤◌}
use native.Mathlib.Nat.{two-pow-succ}
use native.Mathlib.Omega.{arith}
use lib.Dec.{ltb, eqb}
use borrow.Author.Tests.{ltb-true, ltb-false, lt-ltb, le-ltb, eq-eqb, ne_eqb, eqb-true, eqb-false}
use Rattle.coding.specs.Signed.{to_bits, from_bits, to_zigzag, from_zigzag}
use Rattle.coding.specs.Layout.{zigzagged, unzigzagged}
use Rattle.coding.specs.Inverses.{Below}

-- a width is at least 1
pub whole : (w : ℕ) → 1 ≤ w → 2 ^ w ≡ 2 * 2 ^ (w - 1)
whole w h =
    let e : w ≡ suc (w - 1) = omega arith in
    let p : 2 ^ suc (w - 1) ≡ 2 ^ (w - 1) + 2 ^ (w - 1) = two-pow-succ (w - 1) in
    let q : 2 ^ w ≡ 2 ^ suc (w - 1) = ap (λ (k : ℕ). 2 ^ k) e in
    omega arith

-- each by cases

pub zigzagged_low : (w x : ℕ) → x < 2 ^ (w - 1) → zigzagged w x ≡ 2 * x
unfolding zigzagged from_bits to_zigzag
zigzagged_low w x h = simp (lt-ltb x (2 ^ (w - 1)) h)

pub zigzagged_high : (w x : ℕ) → 2 ^ (w - 1) ≤ x → zigzagged w x ≡ 2 * (2 ^ w - 1 - x) + 1
unfolding zigzagged from_bits to_zigzag
zigzagged_high w x h = simp (le-ltb x (2 ^ (w - 1)) h)

pub unzigzagged_even : (w z : ℕ) → z % 2 ≡ 0 → unzigzagged w z ≡ z / 2
unfolding unzigzagged from_zigzag to_bits
unzigzagged_even w z h = simp (eq-eqb (z % 2) 0 h)

pub unzigzagged_odd : (w z : ℕ) → (z % 2 ≡ 0 → ⊥) → unzigzagged w z ≡ 2 ^ w - 1 - z / 2
unfolding unzigzagged from_zigzag to_bits
unzigzagged_odd w z h = simp (ne_eqb (z % 2) 0 h)

module _ (w : ℕ) (hw : 1 ≤ w) where
  pub zigzagged_below : (x : ℕ) → x < 2 ^ w → zigzagged w x < 2 ^ w
  zigzagged_below x h = go (ltb x (2 ^ (w - 1))) refl
    where
      go : (b : Bool) → ltb x (2 ^ (w - 1)) ≡ b → zigzagged w x < 2 ^ w
      go true e =
          let l = ltb-true x (2 ^ (w - 1)) e in
          omega (arith, zigzagged_low w x l, whole w hw)
      go false e =
          let l = ltb-false x (2 ^ (w - 1)) e in
          omega (arith, zigzagged_high w x l, whole w hw)

  pub unzigzagged_below : (z : ℕ) → z < 2 ^ w → unzigzagged w z < 2 ^ w
  unzigzagged_below z h = go (eqb (z % 2) 0) refl
    where
      go : (b : Bool) → eqb (z % 2) 0 ≡ b → unzigzagged w z < 2 ^ w
      go true e = omega (arith, unzigzagged_even w z (eqb-true (z % 2) 0 e))
      go false e =
          let m = eqb-false (z % 2) 0 e in
          omega (arith, unzigzagged_odd w z m)

  pub unzigzag_zigzag : (x : ℕ) → x < 2 ^ w → unzigzagged w (zigzagged w x) ≡ x
  unzigzag_zigzag x h = go (ltb x (2 ^ (w - 1))) refl
    where
      go : (b : Bool) → ltb x (2 ^ (w - 1)) ≡ b → unzigzagged w (zigzagged w x) ≡ x
      go true e =
          let p = zigzagged_low w x (ltb-true x (2 ^ (w - 1)) e) in
          let q = unzigzagged_even w (zigzagged w x) (omega arith) in
          omega arith
      go false e =
          let l = ltb-false x (2 ^ (w - 1)) e in
          let a = whole w hw in
          let p = zigzagged_high w x l in
          let q = unzigzagged_odd w (zigzagged w x) (omega arith) in
          omega arith

  pub zigzag_unzigzag : (z : ℕ) → z < 2 ^ w → zigzagged w (unzigzagged w z) ≡ z
  zigzag_unzigzag z h = go (eqb (z % 2) 0) refl
    where
      go : (b : Bool) → eqb (z % 2) 0 ≡ b → zigzagged w (unzigzagged w z) ≡ z
      go true e =
          let m = eqb-true (z % 2) 0 e in
          let a = whole w hw in
          let p = unzigzagged_even w z m in
          let q = zigzagged_low w (unzigzagged w z) (omega arith) in
          omega arith
      go false e =
          let m = eqb-false (z % 2) 0 e in
          let a = whole w hw in
          let p = unzigzagged_odd w z m in
          let q = zigzagged_high w (unzigzagged w z) (omega arith) in
          omega arith

  -- all elements

  pub unzigzag_zigzags : (xs : List ℕ) → Below (2 ^ w) xs → map (unzigzagged w) (map (zigzagged w) xs) ≡ xs
  unzigzag_zigzags [] h = refl
  unzigzag_zigzags (x ∷ xs) h =
      ap₂ (λ (y : ℕ) (l : List ℕ). y ∷ l) (unzigzag_zigzag x h.0) (unzigzag_zigzags xs h.1)

  pub zigzag_unzigzags : (zs : List ℕ) → Below (2 ^ w) zs → map (zigzagged w) (map (unzigzagged w) zs) ≡ zs
  zigzag_unzigzags [] h = refl
  zigzag_unzigzags (z ∷ zs) h =
      ap₂ (λ (y : ℕ) (l : List ℕ). y ∷ l) (zigzag_unzigzag z h.0) (zigzag_unzigzags zs h.1)
