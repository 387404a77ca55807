-- How many numbers below n pass a test. Assumes nothing.
use Prim.Native.Nat.{ℕ, zero, suc, ◌+◌, ◌≤◌, ◌<◌}
use mathlib.Core.Path.{◌≡◌, refl, sym, ap, ◌∙◌}
use mathlib.Core.Logic.{◌⊎◌, inl, inr, ⊎_elim}
use mathlib.Core.Bool.{Bool, true, false}
use native.Mathlib.Omega.{arith}
use native.Mathlib.Decide.{dec_le}
use borrow.Author.Count.{below_more}
use Rattle.numbers.specs.Choice.{pick}
use Rattle.numbers.proofs.Choice.{which}

unfoldable pub count : (ℕ → Bool) → ℕ → ℕ
count p zero = 0
count p (suc n) = pick (p n) 1 0 + count p n

bit_le : (b : Bool) → pick b 1 0 ≤ 1
bit_le true = omega arith
bit_le false = omega arith

bit_mono : (a b : Bool) → (a ≡ true → b ≡ true) → pick a 1 0 ≤ pick b 1 0
bit_mono true b h = rw (h refl) (omega arith)
bit_mono false b h = omega arith

pub count_le : (p : ℕ → Bool) (n : ℕ) → count p n ≤ n
unfolding count
count_le p zero = omega arith
count_le p (suc n) = let h = count_le p n in let b = bit_le (p n) in omega arith

pub count_mono : (p q : ℕ → Bool) (n : ℕ) → ((x : ℕ) → x < n → p x ≡ true → q x ≡ true) → count p n ≤ count q n
unfolding count
count_mono p q zero h = omega arith
count_mono p q (suc n) h =
    let r = count_mono p q n (λ x l. h x (omega arith)) in let b = bit_mono (p n) (q n) (h n (omega arith)) in omega arith

-- one number more passes the second test
pub count_more : (p q : ℕ → Bool) (n : ℕ) → ((x : ℕ) → x < n → p x ≡ true → q x ≡ true)
    → (y : ℕ) → y < n → p y ≡ false → q y ≡ true → count p n < count q n
unfolding count
count_more p q zero h y l e f = omega arith
count_more p q (suc n) h y l e f =
    elim (dec_le (suc y) n) [
      | yes m ↦
          let r = count_more p q n (λ x k. h x (omega arith)) y m e f in
          let b = bit_mono (p n) (q n) (h n (omega arith)) in
          omega arith
      | no m ↦
          let r = count_mono p q n (λ x k. h x (omega arith)) in
          let s : y ≡ n = omega arith in
          rw (ap p (sym s) ∙ e, ap q (sym s) ∙ f) (omega arith)
    ]

pub count_all : (p : ℕ → Bool) (n : ℕ) → ((x : ℕ) → x < n → p x ≡ true) → count p n ≡ n
unfolding count
count_all p zero h = refl
count_all p (suc n) h = let r = count_all p n (λ x l. h x (omega arith)) in rw (h n (omega arith)) (omega arith)

-- all below n pass, or one does not
pub search_below : (p : ℕ → Bool) (n : ℕ) → ((x : ℕ) → x < n → p x ≡ true) ⊎ ((x : ℕ) × (x < n) × (p x ≡ false))
search_below p zero = inl (λ x l. absurd (omega arith))
search_below p (suc n) =
    ⊎_elim
    (λ all. ⊎_elim (λ e. inl (λ x l. below_more (λ (y : ℕ). p y ≡ true) n all e x (omega arith))) (λ e. inr (n, omega arith, e)) (which (p n)))
    (λ one. inr (one.0, (let h = one.1 in omega arith), one.2))
    (search_below p n)
