-- How often a number is in a list, and what holds of each thing in one. Assumes nothing.
use Prim.Native.Nat.{ℕ, zero, suc, ◌+◌, ◌*◌, ◌≤◌, ◌<◌}
use mathlib.Core.Path.{◌≡◌, refl, sym, ap, ◌∙◌}
use mathlib.Core.Logic.{⊎_elim}
use mathlib.Core.List.{List, [], ◌∷◌, ◌++◌}
use native.Mathlib.Nat.{mul-suc, add-mul}
use native.Mathlib.Omega.{arith}
use borrow.Author.Tests.{eq-eqb, ne_eqb, eqb-true, eqb-false, ltb-true, ltb-false}
use lib.Dec.{eqb, ltb}
use lib.ListN.{length}
use Rattle.numbers.specs.Choice.{pick}
use Rattle.numbers.proofs.Choice.{which}
use Rattle.chain_moves.specs.Distances.{sum_below}
use Rattle.chain_moves.proofs.Distances.{sum_same}
use Rattle.listing.specs.Order.{joined}
use Rattle.listing.specs.Listed.{times, numbers_below}
use Rattle.numbers.specs.Lists.{Each}
use Rattle.numbers.proofs.Lists.{each_append}
use Rattle.listing.proofs.OrderLaws.{joined_all}

-- each thing of what is joined
pub each_joined : {A : Type 0} (such : A → Type 0) (g : ℕ → List A) (m : ℕ) → ((k : ℕ) → k < m → Each such (g k)) → Each such (joined g m)
each_joined such = joined_all (Each such) tt (each_append such)

-- sums

sum_add : (a b : ℕ → ℕ) (m : ℕ) → sum_below (λ f. a f + b f) m ≡ sum_below a m + sum_below b m
unfolding sum_below
sum_add a b zero = refl
sum_add a b (suc m) = let r = sum_add a b m in omega arith

pub sum_constant : (c : ℕ) (t : ℕ → ℕ) (m : ℕ) → ((f : ℕ) → f < m → t f ≡ c) → sum_below t m ≡ c * m
unfolding sum_below
sum_constant c t zero h = omega arith
sum_constant c t (suc m) h =
    let r = sum_constant c t m (λ f l. h f (omega arith)) in let s = h m (omega arith) in rw (mul-suc c m) (omega arith)

-- numbers of which all but one are 0
module _ (x : ℕ) (t : ℕ → ℕ) (none : (k : ℕ) → (k ≡ x → ⊥) → t k ≡ 0) where
  sum_before : (m : ℕ) → m ≤ x → sum_below t m ≡ 0
  sum_before m l = sum_constant 0 t m (λ k b. none k (λ w. omega arith)) ∙ omega arith

  sum_at : (m : ℕ) → x < m → sum_below t m ≡ t x
  unfolding sum_below
  sum_at zero l = absurd (omega arith)
  sum_at (suc m) l =
      ⊎_elim
      (λ u. let same = eqb-true m x u in let z : t m ≡ t x = ap t same in let r = sum_before m (omega arith) in omega arith)
      (λ u. let other = eqb-false m x u in let z = none m other in let r = sum_at m (omega arith) in omega arith)
      (which (eqb m x))

-- the sum of a number for each number of a list
unfoldable pub sum_over : (ℕ → ℕ) → List ℕ → ℕ
sum_over each [] = 0
sum_over each (x ∷ l) = each x + sum_over each l

-- how often a number is in a list

pub times_append : (f : ℕ) (xs ys : List ℕ) → times f (xs ++ ys) ≡ times f xs + times f ys
unfolding times
times_append f [] ys = omega arith
times_append f (x ∷ xs) ys = let r = times_append f xs ys in omega arith

pub times_joined : (f : ℕ) (g : ℕ → List ℕ) (m : ℕ) → times f (joined g m) ≡ sum_below (λ k. times f (g k)) m
unfolding joined sum_below times
times_joined f g zero = refl
times_joined f g (suc m) = rw (times_append f (joined g m) (g m), times_joined f g m)

pub times_none : (f : ℕ) (g : ℕ → List ℕ) (m : ℕ) → ((k : ℕ) → k < m → times f (g k) ≡ 0) → times f (joined g m) ≡ 0
unfolding times
times_none f = joined_all (λ l. times f l ≡ 0) refl (λ xs ys a b. let r = times_append f xs ys in omega arith)

pub times_numbers : (f n : ℕ) → times f (numbers_below n) ≡ pick (ltb f n) 1 0
unfolding times
times_numbers f n =
    let t : ℕ → ℕ = λ k. times f (k ∷ []) in
    let none : (k : ℕ) → (k ≡ f → ⊥) → t k ≡ 0 = λ k other. rw (ne_eqb k f other) in
    times_joined f (λ k. k ∷ []) n
    ∙ ⊎_elim
    (λ u. sum_at f t none n (ltb-true f n u) ∙ rw (u, eq-eqb f f refl))
    (λ u. sum_before f t none n (ltb-false f n u) ∙ rw u)
    (which (ltb f n))

-- in a sum over a list of numbers below n each counts as often as it is in the list
pub sum_times : (each : ℕ → ℕ) (n : ℕ) (l : List ℕ) → Each (λ x. x < n) l → sum_over each l ≡ sum_below (λ k. times k l * each k) n
unfolding sum_over times
sum_times each n [] w = sym (sum_constant 0 (λ k. 0 * each k) n (λ k _. omega arith) ∙ omega arith)
sum_times each n (x ∷ l) w =
    let here : ℕ → ℕ = λ k. pick (eqb x k) 1 0 * each k in
    let r = sum_times each n l w.1 in
    let one : here x ≡ each x = rw (eq-eqb x x refl) (omega arith) in
    let s = sum_at x here (λ k other. rw (ne_eqb x k (λ e. other (sym e))) (omega arith)) n w.0 in
    let b = sum_same (λ k. (pick (eqb x k) 1 0 + times k l) * each k) (λ k. here k + times k l * each k) n (λ k _. add-mul (pick (eqb x k) 1 0) (times k l) (each k))
    ∙ sum_add here (λ k. times k l * each k) n in
    omega arith

sum_ones : (l : List ℕ) → sum_over (λ _. 1) l ≡ length l
unfolding sum_over
sum_ones [] = refl
sum_ones (x ∷ l) = let r = sum_ones l in omega arith

-- a list of numbers below n is as long as all of them are often in it
pub times_length : (n : ℕ) (l : List ℕ) → Each (λ x. x < n) l → sum_below (λ f. times f l) n ≡ length l
times_length n l w = sum_same (λ f. times f l) (λ f. times f l * 1) n (λ f _. omega arith) ∙ sym (sum_times (λ _. 1) n l w) ∙ sum_ones l

-- a number that no number of a list is
pub times_never : (f : ℕ) (l : List ℕ) → Each (λ x. x ≡ f → ⊥) l → times f l ≡ 0
unfolding times
times_never f [] w = refl
times_never f (x ∷ l) w = let r = times_never f l w.1 in rw (ne_eqb x f w.0) (omega arith)
