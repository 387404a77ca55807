-- The decimal digits of a number tell it, and how many there are. Assumes nothing.
use Prim.Native.Nat.{ℕ, zero, suc, ◌+◌, ◌*◌, ◌-◌, ◌/◌, ◌%◌, ◌≤◌, ◌<◌}
use mathlib.Core.Path.{◌≡◌, refl, sym, ap, ◌∙◌}
use mathlib.Core.Logic.{⊎_elim}
use mathlib.Core.List.{List, [], ◌∷◌, ◌++◌}
use native.Mathlib.Omega.{arith}
use borrow.Author.Tests.{ltb-true, ltb-false}
use lib.Dec.{ltb}
use lib.ListN.{length, length-append}
use Rattle.numbers.proofs.Choice.{which}
use Rattle.decimals.specs.Decimal.{decimal_by, decimal}
use Rattle.numbers.specs.Lists.{Each}
use Rattle.numbers.proofs.Lists.{each_append}

-- the number that digits are, after those read before
value : ℕ → List ℕ → ℕ
value before [] = before
value before (b ∷ l) = value (10 * before + (b - 48)) l

value_append : (before : ℕ) (xs ys : List ℕ) → value before (xs ++ ys) ≡ value (value before xs) ys
unfolding value
value_append before [] ys = refl
value_append before (x ∷ xs) ys = value_append (10 * before + (x - 48)) xs ys

decimal_value : (steps n : ℕ) → value 0 (decimal_by steps n) ≡ n
unfolding decimal_by value
decimal_value zero n = omega arith
decimal_value (suc steps) n =
    ⊎_elim (λ t. rw t (omega arith))
    (λ t. rw t (value_append 0 (decimal_by steps (n / 10)) ((48 + n % 10) ∷ []) ∙ (let r = decimal_value steps (n / 10) in omega arith)))
    (which (ltb n 10))

pub decimal_some : (steps n : ℕ) → 1 ≤ length (decimal_by steps n)
unfolding decimal_by
decimal_some zero n = omega arith
decimal_some (suc steps) n =
    ⊎_elim (λ t. rw t (omega arith)) (λ t. rw t (omega (arith, length-append (decimal_by steps (n / 10)) ((48 + n % 10) ∷ [])))) (which (ltb n 10))

abbrev pub Digit : ℕ → Type 0
Digit b = (48 ≤ b) × (b < 58)

pub decimal_digits : (steps n : ℕ) → n ≤ steps → Each Digit (decimal_by steps n)
unfolding decimal_by
decimal_digits zero n l = ((omega arith, omega arith), tt)
decimal_digits (suc steps) n l =
    ⊎_elim (λ t. rw t ((omega arith, omega (arith, ltb-true n 10 t)), tt))
    (λ t.
    let m = ltb-false n 10 t in
    rw t (each_append Digit (decimal_by steps (n / 10)) ((48 + n % 10) ∷ []) (decimal_digits steps (n / 10) (omega arith)) ((omega arith, omega arith), tt)))
    (which (ltb n 10))

pub decimal_same : (n m : ℕ) → decimal n ≡ decimal m → n ≡ m
decimal_same n m e = sym (decimal_value n n) ∙ ap (value 0) e ∙ decimal_value m m

-- a number below 1000 has at most three digits

one_digit : (steps n : ℕ) → n < 10 → length (decimal_by steps n) ≤ 1
unfolding decimal_by
one_digit zero n l = omega arith
one_digit (suc steps) n l = ⊎_elim (λ t. rw t (omega arith)) (λ t. absurd (omega (arith, ltb-false n 10 t))) (which (ltb n 10))

digit_more : (most count : ℕ) → 1 ≤ count → ((steps n : ℕ) → n < most → length (decimal_by steps n) ≤ count)
    → (steps n : ℕ) → n < 10 * most → length (decimal_by steps n) ≤ suc count
unfolding decimal_by
digit_more most count some fewer zero n l = omega arith
digit_more most count some fewer (suc steps) n l =
    ⊎_elim
    (λ t. rw t (omega arith))
    (λ t. rw t (let r = fewer steps (n / 10) (omega arith) in omega (arith, length-append (decimal_by steps (n / 10)) ((48 + n % 10) ∷ []))))
    (which (ltb n 10))

pub three_digits : (n : ℕ) → n < 1000 → length (decimal n) ≤ 3
three_digits n l = digit_more 100 2 (omega arith) (digit_more 10 1 (omega arith) one_digit) n n (omega arith)
