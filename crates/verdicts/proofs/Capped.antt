-- Lengths, counted up to one more than the ceiling.
use Prim.Native.Nat.{ℕ, zero, suc, ◌+◌, ◌*◌, ◌≤◌, ◌<◌}
use mathlib.Core.Bool.{Bool, true, false}
use mathlib.Core.Path.{◌≡◌, refl, sym, ap, ◌∙◌}
use native.Mathlib.Nat.{mul-zero, mul-suc, mul-le-mul}
use native.Mathlib.Omega.{arith}
use lib.Dec.{leb}
use borrow.Author.Tests.{leb-true, leb-false, le-leb, lt-leb}
use Rattle.numbers.specs.Choice.{pick}
use Rattle.envelope.specs.Envelope.{ceiling}
use Rattle.verdicts.specs.Length.{capped}

pub capped_small : (n : ℕ) → n ≤ ceiling → n ≡ capped n
unfolding capped
capped_small n h = rw (le-leb n ceiling h)

pub capped_big : (n : ℕ) → ceiling < n → 1048577 ≡ capped n
unfolding capped
capped_big n h = rw (lt-leb n ceiling h)

-- a length that was counted so stays
pub capped_same : (n : ℕ) → n ≤ 1048577 → n ≡ capped n
capped_same n h = go (leb n ceiling) refl
  where
    go : (b : Bool) → leb n ceiling ≡ b → n ≡ capped n
    go true e = capped_small n (leb-true n ceiling e)
    go false e = let big = leb-false n ceiling e in let is : n ≡ 1048577 = omega arith in is ∙ capped_big n (omega arith)

pub capped_most : (n : ℕ) → capped n ≤ 1048577
unfolding capped
capped_most n = go (leb n ceiling) refl
  where
    go : (b : Bool) → leb n ceiling ≡ b → pick b n (suc ceiling) ≤ 1048577
    go true e = omega (arith, leb-true n ceiling e)
    go false e = omega arith

-- whether a length is above the ceiling shows
pub capped_leb : (n : ℕ) → leb (capped n) ceiling ≡ leb n ceiling
unfolding capped
capped_leb n = go (leb n ceiling) refl
  where
    go : (b : Bool) → leb n ceiling ≡ b → leb (pick b n (suc ceiling)) ceiling ≡ b
    go true e = e
    go false e = lt-leb (suc ceiling) ceiling (omega arith)

pub capped_more : (a b : ℕ) → capped (capped a + b) ≡ capped (a + b)
unfolding capped
capped_more a b = go (leb a ceiling) refl
  where
    go : (t : Bool) → leb a ceiling ≡ t → capped (pick t a (suc ceiling) + b) ≡ capped (a + b)
    go true e = refl
    go false e = sym (capped_big (suc ceiling + b) (omega arith)) ∙ capped_big (a + b) (omega (arith, leb-false a ceiling e))

-- a length that grows twice
pub grown_twice : (t a b r s : ℕ) → r ≡ capped (t + a) → s ≡ capped (r + b) → s ≡ capped (t + (a + b))
grown_twice t a b r s e f =
    let sum : t + a + b ≡ t + (a + b) = omega arith in
    f ∙ ap (λ (k : ℕ). capped (k + b)) e ∙ capped_more (t + a) b ∙ ap capped sum

-- rows without bytes
pub rows_none : (rows size : ℕ) → size ≡ 0 → 0 ≡ rows * size
rows_none rows size e = sym (ap (λ (k : ℕ). rows * k) e ∙ mul-zero rows)

-- many rows
pub rows_many : (rows size : ℕ) → 1 ≤ size → rows ≤ rows * size
rows_many rows zero h = absurd (omega arith)
rows_many rows (suc k) h = omega (arith, mul-suc rows k)

pub rows_fit : (rows size : ℕ) → rows ≤ 1048576 → size ≤ 65535 → rows * size ≤ 68718428160
rows_fit rows size h k = mul-le-mul h k
