-- The test that every parent is one of the fields. Assumes nothing.
use Prim.Native.Nat.{ℕ, zero, suc, ◌≤◌, ◌<◌}
use mathlib.Core.Path.{◌≡◌, refl, ap}
use mathlib.Core.Bool.{Bool, true, false}
use mathlib.Core.List.{List}
use native.Mathlib.Omega.{arith}
use native.Mathlib.Numerals.{add-one}
use borrow.Author.Count.{below_more}
use borrow.Author.Tests.{lt-ltb, ltb-true, le-leb, lt-leb, leb-true}
use lib.ListN.{length, get_or, take, length-take}
use lib.Seq.{get_or-take}
use lib.Dec.{leb, ltb}
use Rattle.std.specs.Prelude.{◌&&◌}
use Rattle.std.specs.List.{list_all}
use Rattle.std.proofs.lemmas.List.Folds.{list_all_more}
use Rattle.rows.specs.Words.{most_fields}
use Rattle.parents.specs.Parents.{inside_up_to, inside, Inside}
use Rattle.numbers.specs.Choice.{both}
use Rattle.numbers.proofs.Choice.{is_false, both_true}

module _ (parents : List ℕ) (n : ℕ) where
  -- the test of the first k parents, one after the other
  up_to_taken : (k : ℕ) → k ≤ length parents → list_all (λ x. ltb x n) (take k parents) ≡ inside_up_to parents n k
  unfolding inside_up_to
  up_to_taken zero h = refl
  up_to_taken (suc k) h =
      rw (← add-one k, list_all_more (λ (x : ℕ). ltb x n) parents k 0 (omega arith), up_to_taken k (omega arith)) (joined (inside_up_to parents n k) (ltb (get_or parents k 0) n))
    where
      joined : (a b : Bool) → (a && b) ≡ both a b
      joined true b = refl
      joined false b = refl

  up_to_is : (k : ℕ) → inside_up_to parents n k ≡ true → (f : ℕ) → f < k → get_or parents f 0 < n
  unfolding inside_up_to
  up_to_is zero e f l = absurd (omega arith)
  up_to_is (suc k) e f l =
      let (before, last) = both_true (inside_up_to parents n k) (ltb (get_or parents k 0) n) e in
      below_more (λ (g : ℕ). get_or parents g 0 < n) k (up_to_is k before) (ltb-true (get_or parents k 0) n last) f (omega arith)

  up_to_all : (k : ℕ) → ((f : ℕ) → f < k → get_or parents f 0 < n) → inside_up_to parents n k ≡ true
  unfolding inside_up_to
  up_to_all zero h = refl
  up_to_all (suc k) h = rw (up_to_all k (λ f l. h f (omega arith)), lt-ltb (get_or parents k 0) n (h k (omega arith)))

  parts : inside parents n ≡ true → (leb n most_fields ≡ true) × (leb n (length parents) ≡ true) × (inside_up_to parents n n ≡ true)
  unfolding inside
  parts e =
      let (few, rest) = both_true (leb n most_fields) (both (leb n (length parents)) (inside_up_to parents n n)) e in
      let (long, all) = both_true (leb n (length parents)) (inside_up_to parents n n) rest in
      (few, long, all)

  -- what the test asks for beside the parents themselves
  pub inside_few : inside parents n ≡ true → (n ≤ most_fields) × (n ≤ length parents)
  inside_few e = (leb-true n most_fields (parts e).0, leb-true n (length parents) (parts e).1)

  pub inside_is : inside parents n ≡ true → Inside parents n
  inside_is e = up_to_is n (parts e).2

  pub inside_reached : n ≤ most_fields → n ≤ length parents → inside_up_to parents n n ≡ true → inside parents n ≡ true
  unfolding inside
  inside_reached few long e = rw (le-leb n most_fields few, le-leb n (length parents) long, e)

  -- parents that stand in front of a table
  pub inside_front : (ys : List ℕ) → n ≤ most_fields → take n parents ≡ ys → length ys ≡ n → Inside ys n → inside parents n ≡ true
  inside_front ys few same count h =
      let l = length-take n parents in
      let k = ap length same in
      inside_reached few (omega arith)
      (up_to_all n (λ f b. let g = get_or-take n parents f 0 b in let w = ap (λ (l : List ℕ). get_or l f 0) same in let r = h f b in omega arith))

  pub inside_many : most_fields < n → inside parents n ≡ false
  unfolding inside
  inside_many h = rw (lt-leb n most_fields h)

  pub inside_more : length parents < n → inside parents n ≡ false
  inside_more h = is_false (inside parents n) (λ t. let r = (inside_few t).1 in omega arith)

  pub inside_all : n ≤ most_fields → n ≤ length parents → list_all (λ x. ltb x n) (take n parents) ≡ inside parents n
  unfolding inside
  inside_all few long = rw (le-leb n most_fields few, le-leb n (length parents) long) (up_to_taken n long)
