-- Room that is taken piece by piece.
use Prim.Native.Nat.{ℕ, ◌+◌, ◌-◌, ◌≤◌, ◌<◌}
use mathlib.Core.Path.{◌≡◌, refl, sym, ap, subst, ◌∙◌}
use mathlib.Core.Logic.{⊎_elim}
use mathlib.Core.Bool.{Bool, true, false}
use native.Mathlib.Omega.{arith}
use borrow.Author.Tests.{le-leb, lt-leb, leb-true, leb-false}
use lib.Dec.{leb}
use Rattle.numbers.proofs.Choice.{which}
use Rattle.listing_lines.specs.Room.{room_after, Taken}
use Rattle.std.specs.Prelude.{Option, Some, None, SomeIff}

pub taken_none : (n : ℕ) → Taken (Some n) 0 (Some n)
unfolding room_after
taken_none n =
    let same : n - 0 ≡ n = omega arith in
    record { is = rw (le-leb 0 n (omega arith), same) }

room_both : (x : Option ℕ) (a b : ℕ) → room_after (room_after x a) b ≡ room_after x (a + b)
unfolding room_after
room_both (Some n) a b =
    ⊎_elim
    (λ t.
    let l = leb-true a n t in
    ⊎_elim
    (λ u.
    let m = leb-true (a + b) n u in
    let same : n - a - b ≡ n - (a + b) = omega arith in
    rw (t, u, le-leb b (n - a) (omega arith), same))
    (λ u. let m = leb-false (a + b) n u in rw (t, u, lt-leb b (n - a) (omega arith)))
    (which (leb (a + b) n)))
    (λ t. let l = leb-false a n t in rw (t, lt-leb (a + b) n (omega arith)))
    (which (leb a n))
room_both None a b = refl

pub taken_then : {x y z : Option ℕ} {a b : ℕ} → Taken x a y → Taken y b z → Taken x (a + b) z
taken_then {x} {y} {z} {a} {b} one two = record { is = two.is ∙ ap (λ (r : Option ℕ). room_after r b) one.is ∙ room_both x a b }

pub taken_as : {x y : Option ℕ} {a b : ℕ} → a ≡ b → Taken x a y → Taken x b y
taken_as {x} {y} same t = subst (λ (k : ℕ). Taken x k y) same t

-- what is left says whether the pieces fit

pub taken_left : {n k left : ℕ} → Taken (Some n) k (Some left) → leb k n ≡ true
unfolding room_after
taken_left {n} {k} {left} t =
    ⊎_elim (λ u. u) (λ u. let is : Some left ≡ None = rw u at t.is in let z : ◌≡◌ {A = ℕ} 0 1 = cc in absurd (omega arith)) (which (leb k n))

pub taken_full : {n k : ℕ} → Taken (Some n) k None → leb k n ≡ false
unfolding room_after
taken_full {n} {k} t =
    ⊎_elim (λ u. let is : None ≡ Some (n - k) = rw u at t.is in let z : ◌≡◌ {A = ℕ} 0 1 = cc in absurd (omega arith)) (λ u. u) (which (leb k n))

-- pieces in front leave so much, and the last of them is tested

pub taken_past : {n k : ℕ} {r : Option ℕ} → n < k → r ≡ None → Taken (Some n) k r
unfolding room_after
taken_past {n} {k} l e = record { is = e ∙ sym (rw (lt-leb k n l)) }

pub taken_last : {n k : ℕ} (rest end : ℕ) (r : Option ℕ) → rest + k ≡ n + end → SomeIff r (end ≤ rest) (rest - end) → Taken (Some n) k r
unfolding room_after
taken_last {n} {k} rest end (Some m) all is =
    let fits = is.0 in
    let same : m ≡ n - k = omega (arith, is.1) in
    record { is = ap Some same ∙ sym (rw (le-leb k n (omega arith))) }
taken_last {n} {k} rest end None all is =
    taken_past (leb-false k n (by (leb k n) refl)) refl
  where
    by : (b : Bool) → leb k n ≡ b → leb k n ≡ false
    by true e = let l = leb-true k n e in absurd (is (omega arith))
    by false e = e
