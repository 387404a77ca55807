-- Two functions that are linear over exclusive or are the same where they agree on the powers of two.
use mathlib.Core.Path.{◌≡◌, sym, ap, ap₂, ◌∙◌, subst}
use mathlib.Core.Logic.{◌⊎◌, inl, inr}
use mathlib.Core.Bool.{Bool, true, false}
use Prim.Native.Nat.{ℕ, zero, suc, ◌*◌, ◌/◌, ◌%◌, ◌^◌, ◌<◌, ◌+◌}
use native.Mathlib.Nat.{mod-lt, le_refl, zero-mul, one-mul, add_comm, not-suc-le-zero, le_of_suc-le-suc, eq-or-lt_of_le}
use native.Mathlib.Numerals.{add-one}
use native.Mathlib.Omega.{arith}
use lib.Bits.{bit_xor, xor_shifted, xor_self}
use lib.Dec.{T}
use lib.Pow.{split, pow_pos, shr_lt}
use Rattle.numbers.specs.Choice.{both}
use Rattle.crc_register.proofs.Xor.{digit}

abbrev pub Linear : (ℕ → ℕ) → Type 0
Linear f = (a b : ℕ) → f (bit_xor a b) ≡ bit_xor (f a) (f b)

pub then : (f g : ℕ → ℕ) → Linear f → Linear g → Linear (λ x. g (f x))
then f g hf hg a b = ap g (hf a b) ∙ hg (f a) (f b)

linear_zero : (f : ℕ → ℕ) → Linear f → f 0 ≡ 0
linear_zero f l = ap f (sym (xor_self (2 ^ 0))) ∙ l (2 ^ 0) (2 ^ 0) ∙ xor_self (f (2 ^ 0))

apart : (f : ℕ → ℕ) → Linear f → (n x : ℕ) → f x ≡ bit_xor (f (x / 2 ^ n * 2 ^ n)) (f (x % 2 ^ n))
apart f l n x =
    ap f (sym (split x n) ∙ sym (xor_shifted (x / 2 ^ n) n (x % 2 ^ n) (mod-lt x (pow_pos n))))
    ∙ l (x / 2 ^ n * 2 ^ n) (x % 2 ^ n)

module _ (f g : ℕ → ℕ) (hf : Linear f) (hg : Linear g) where
  top : (n : ℕ) → f (2 ^ n) ≡ g (2 ^ n) → (d : ℕ) → d < 2 → f (d * 2 ^ n) ≡ g (d * 2 ^ n)
  top n e d h =
      digit (λ (d : ℕ). f (d * 2 ^ n) ≡ g (d * 2 ^ n))
      (ap f (zero-mul (2 ^ n)) ∙ linear_zero f hf ∙ sym (ap g (zero-mul (2 ^ n)) ∙ linear_zero g hg))
      (ap f (one-mul (2 ^ n)) ∙ e ∙ sym (ap g (one-mul (2 ^ n))))
      d
      h

  pub agree : (n : ℕ) → ((j : ℕ) → j < n → f (2 ^ j) ≡ g (2 ^ j)) → (x : ℕ) → x < 2 ^ n → f x ≡ g x
  agree zero e x h =
      let z : x ≡ 0 = omega arith in
      ap f z ∙ linear_zero f hf ∙ sym (ap g z ∙ linear_zero g hg)
  agree (suc n) e x h =
      apart f hf n x
      ∙ ap₂ bit_xor (top n (e n (le_refl (suc n))) (x / 2 ^ n) (shr_lt 1 n h')) (agree n (λ j k. e j (omega arith)) (x % 2 ^ n) (mod-lt x (pow_pos n)))
      ∙ sym (apart g hg n x)
    where
      h' : x < 2 ^ (1 + n)
      h' = rw (add_comm 1 n, add-one n) h

pub halves : (a b : Bool) → T (both a b) → T a × T b
halves true b t = (tt, t)
halves false b t = absurd t

-- a test of all numbers below n, which antt computes
unfoldable pub sure : (ℕ → Bool) → ℕ → Bool
sure f zero = true
sure f (suc n) = both (f n) (sure f n)

pub sure_at : (f : ℕ → Bool) (n : ℕ) → T (sure f n) → (j : ℕ) → j < n → T (f j)
unfolding sure
sure_at f zero t j h = absurd (not-suc-le-zero h)
sure_at f (suc n) t j h = pick (eq-or-lt_of_le (le_of_suc-le-suc h)) (sure_at f n (halves (f n) (sure f n) t).1 j)
  where
    pick : (j ≡ n) ⊎ (j < n) → (j < n → T (f j)) → T (f j)
    pick (inl e) r = subst (λ (k : ℕ). T (f k)) (sym e) (halves (f n) (sure f n) t).0
    pick (inr l) r = r l
