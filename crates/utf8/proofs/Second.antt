-- The range of the second byte, as facts.
use Prim.Native.Nat.{ℕ, ◌≤◌}
use mathlib.Core.Path.{◌≡◌, refl, sym, ◌∙◌}
use mathlib.Core.Bool.{Bool, true, false}
use native.Mathlib.Omega.{arith}
use lib.Dec.{leb, eqb}
use borrow.Author.Tests.{leb-true, eqb-true, eqb-false}
use Rattle.numbers.specs.Choice.{pick}
use Rattle.utf8.specs.WellFormed.{◌to◌, inside}
use Rattle.utf8.specs.Walking.{limit, least_second, most_second}
use Rattle.numbers.proofs.Choice.{both_true}
use Rattle.utf8.proofs.Rows.{in_range}

-- the range of the second byte, as facts
pub record Second (b x : ℕ) : Type 0 where
  pub least : 0x80 ≤ x
  pub most : x ≤ 0xBF
  pub after_E0 : b ≡ 0xE0 → 0xA0 ≤ x
  pub after_ED : b ≡ 0xED → x ≤ 0x9F
  pub after_F0 : b ≡ 0xF0 → 0x90 ≤ x
  pub after_F4 : b ≡ 0xF4 → x ≤ 0x8F

abbrev pub narrowed : ℕ → ℕ → Bool
narrowed b x = inside (least_second b to most_second b) x

pub range_is : (least most x : ℕ) → inside (least to most) x ≡ true → (least ≤ x) × (x ≤ most)
range_is least most x e =
    let (l, m) = both_true (leb least x) (leb x most) e in
    (leb-true least x l, leb-true x most m)

-- a property of a limit, by the first byte
module _ (P : ℕ → Type 0) (b one afterOne other afterOther plain : ℕ) where
  by_first : (b ≡ one → P afterOne) → (b ≡ other → P afterOther) → P plain → P (limit b one afterOne other afterOther plain)
  by_first f g h = by (eqb b one) (eqb b other) refl refl
    where
      by : (p q : Bool) → eqb b one ≡ p → eqb b other ≡ q → P (pick p afterOne (pick q afterOther plain))
      by true q d e = f (eqb-true b one d)
      by false true d e = g (eqb-true b other e)
      by false false d e = h

  -- and back, where the two first bytes differ and both narrow
  of_first_lem : (one ≡ other → ⊥) → (P afterOne → P plain) → (P afterOther → P plain) → P (limit b one afterOne other afterOther plain)
      → P plain × (b ≡ one → P afterOne) × (b ≡ other → P afterOther)
  of_first_lem differ f g = by (eqb b one) (eqb b other) refl refl
    where
      by : (p q : Bool) → eqb b one ≡ p → eqb b other ≡ q → P (pick p afterOne (pick q afterOther plain))
          → P plain × (b ≡ one → P afterOne) × (b ≡ other → P afterOther)
      by true q d e h = (f h, λ _. h, λ k. absurd (differ (sym (eqb-true b one d) ∙ k)))
      by false true d e h = (g h, λ k. absurd (eqb-false b one d k), λ _. h)
      by false false d e h = (h, λ k. absurd (eqb-false b one d k), λ k. absurd (eqb-false b other e k))

module _ (b x : ℕ) where
  pub second_is : narrowed b x ≡ true → Second b x
  second_is e =
      let (least, most) = range_is (least_second b) (most_second b) x e in
      let l = of_first_lem (λ n. n ≤ x) b 0xE0 0xA0 0xF0 0x90 0x80 (omega arith) (λ h. omega arith) (λ h. omega arith) least in
      let m = of_first_lem (λ n. x ≤ n) b 0xED 0x9F 0xF4 0x8F 0xBF (omega arith) (λ h. omega arith) (λ h. omega arith) most in
      record { least = l.0; most = m.0; after_E0 = l.1; after_ED = m.1; after_F0 = l.2; after_F4 = m.2 }

  pub is_second : Second b x → narrowed b x ≡ true
  is_second h =
      in_range (least_second b) (most_second b) x
      (by_first (λ n. n ≤ x) b 0xE0 0xA0 0xF0 0x90 0x80 h.after_E0 h.after_F0 h.least)
      (by_first (λ n. x ≤ n) b 0xED 0x9F 0xF4 0x8F 0xBF h.after_ED h.after_F4 h.most)
