-- Each field is listed exactly once, where each has a rank one above that of what it hangs on. Assumes nothing.
use Prim.Native.Nat.{ℕ, zero, suc, ◌+◌, ◌≤◌, ◌<◌}
use mathlib.Core.Path.{◌≡◌, refl, sym, ap, ◌∙◌}
use mathlib.Core.Logic.{⊎_elim}
use mathlib.Core.Bool.{true}
use mathlib.Core.List.{List, [], ◌∷◌, ◌++◌, append_assoc, append-nil, map-append}
use native.Mathlib.Nat.{zero-add, suc-add}
use native.Mathlib.Omega.{arith}
use borrow.Author.Tests.{eq-eqb, ne_eqb, eqb-true, eqb-false, lt-ltb, ltb-true, ltb-false}
use lib.Dec.{eqb, ltb}
use lib.ListN.{length, length-map}
use Rattle.numbers.specs.Choice.{pick}
use Rattle.numbers.proofs.Choice.{which}
use Rattle.chain_moves.specs.Distances.{sum_below}
use Rattle.listing.specs.Order.{Entry, joined, below, branch}
use Rattle.listing.specs.Listed.{fields_in, times, numbers_below, children_in}
use Rattle.numbers.specs.Lists.{Each}
use Rattle.numbers.proofs.Lists.{each_weaken}
use Rattle.listing.proofs.TimesLaws.{each_joined, sum_constant, times_joined, times_none, times_numbers, times_length, times_never}
use Rattle.listing.proofs.OrderLaws.{joined_each, joined_same, joined_skip}

-- the fields that hang on one

module _ (up : ℕ → ℕ) (g : ℕ) where
  children_append : (xs ys : List ℕ) → children_in up g (xs ++ ys) ≡ children_in up g xs ++ children_in up g ys
  unfolding children_in
  children_append [] ys = refl
  children_append (x ∷ xs) ys = rw (children_append xs ys) (sym (append_assoc (pick (eqb (up x) g) (x ∷ []) []) (children_in up g xs) (children_in up g ys)))

  children_joined : (h : ℕ → List ℕ) (m : ℕ) → children_in up g (joined h m) ≡ joined (λ k. children_in up g (h k)) m
  unfolding children_in
  children_joined = joined_each (children_in up g) refl children_append

-- a field is as often among those that hang on what it hangs on
times_children : (up : ℕ → ℕ) (f : ℕ) (l : List ℕ) → times f (children_in up (up f) l) ≡ times f l
unfolding times children_in
times_children up f [] = refl
times_children up f (x ∷ l) =
    let r = times_children up f l in
    ⊎_elim
    (λ t. rw t (omega arith))
    (λ t. let other : x ≡ f → ⊥ = λ e. eqb-false (up x) (up f) t (ap up e) in rw (t, ne_eqb x f other) (omega arith))
    (which (eqb (up x) (up f)))

-- a list some times over

unfoldable repeated : ℕ → List ℕ → List ℕ
repeated zero l = []
repeated (suc k) l = l ++ repeated k l

repeated_add : (a b : ℕ) (l : List ℕ) → repeated (a + b) l ≡ repeated a l ++ repeated b l
unfolding repeated
repeated_add zero b l = ap (λ (k : ℕ). repeated k l) (zero-add b)
repeated_add (suc a) b l = ap (λ (k : ℕ). repeated k l) (suc-add a b) ∙ rw (repeated_add a b l) (sym (append_assoc l (repeated a l) (repeated b l)))

repeated_one : (l : List ℕ) → repeated 1 l ≡ l
unfolding repeated
repeated_one l = append-nil l

joined_repeated : (w : ℕ → ℕ) (l : List ℕ) (m : ℕ) → joined (λ k. repeated (w k) l) m ≡ repeated (sum_below w m) l
unfolding joined sum_below repeated
joined_repeated w l zero = refl
joined_repeated w l (suc m) = rw (joined_repeated w l m) (sym (repeated_add (sum_below w m) (w m) l))

-- the fields that are listed below t, without their levels
unfoldable listed : (ℕ → ℕ) → ℕ → ℕ → ℕ → List ℕ
listed up n zero t = []
listed up n (suc left) t = joined (λ k. pick (eqb (up k) t) (k ∷ listed up n left k) []) n

fields_listed : (up : ℕ → ℕ) (n left level t : ℕ) → fields_in (below up n left level t) ≡ listed up n left t
unfolding below listed
fields_listed up n zero level t = refl
fields_listed up n (suc left) level t =
    joined_each fields_in refl (map-append (λ (x : Entry). x.field)) (branch up n left level t) n
    ∙ joined_same (λ k. fields_in (branch up n left level t k)) (λ k. pick (eqb (up k) t) (k ∷ listed up n left k) []) n
    (λ k l. ⊎_elim (λ s. rw s (ap (λ (r : List ℕ). k ∷ r) (fields_listed up n left (suc level) k))) (λ s. rw s) (which (eqb (up k) t)))

listed_below : (up : ℕ → ℕ) (n left t : ℕ) → Each (λ x. x < n) (listed up n left t)
unfolding listed
listed_below up n zero t = tt
listed_below up n (suc left) t =
    each_joined (λ x. x < n) (λ k. pick (eqb (up k) t) (k ∷ listed up n left k) []) n
    (λ k l. ⊎_elim (λ s. rw s (l, listed_below up n left k)) (λ s. rw s tt) (which (eqb (up k) t)))

pub below_within : (up : ℕ → ℕ) (n left level t : ℕ) → Each (λ x. x < n) (fields_in (below up n left level t))
below_within up n left level t = rw (fields_listed up n left level t) (listed_below up n left t)

-- the fields below n hang on one another or on n, and each has a rank one above that of what it hangs on
pub record Ranked (up : ℕ → ℕ) (n : ℕ) (rank : ℕ → ℕ) : Type 0 where
  pub root : rank n ≡ 0
  pub inside : (k : ℕ) → k < n → up k ≤ n
  pub next : (k : ℕ) → k < n → rank k ≡ suc (rank (up k))
  pub most : (k : ℕ) → k < n → rank k ≤ n

module _ {up : ℕ → ℕ} {n : ℕ} {rank : ℕ → ℕ} (its : Ranked up n rank) where
  pub child_rank : (k t : ℕ) → k < n → eqb (up k) t ≡ true → rank k ≡ suc (rank t)
  child_rank k t l s = its.next k l ∙ ap (λ (x : ℕ). suc (rank x)) (eqb-true (up k) t s)

  other_rank : (k g : ℕ) → rank g < rank k → k ≡ g → ⊥
  other_rank k g l e = let z : rank k ≡ rank g = ap rank e in omega arith

  -- a field of no higher rank than t is not listed below t
  listed_none : (left t g : ℕ) → rank g ≤ rank t → times g (listed up n left t) ≡ 0
  unfolding listed times
  listed_none zero t g h = refl
  listed_none (suc left) t g h =
      times_none g (λ k. pick (eqb (up k) t) (k ∷ listed up n left k) []) n
      (λ k l.
      ⊎_elim
      (λ s. let e = child_rank k t l s in rw (s, ne_eqb k g (other_rank k g (omega arith))) (let r = listed_none left k g (omega arith) in omega arith))
      (λ s. rw s)
      (which (eqb (up k) t)))

  -- a field with as many above it as there are fields has no child
  no_child : (g : ℕ) → n ≤ rank g → children_in up g (numbers_below n) ≡ []
  unfolding children_in joined
  no_child g h =
      children_joined up g (λ k. k ∷ []) n
      ∙ joined_skip (λ k. children_in up g (k ∷ [])) 0 n (omega arith)
      (λ k _ l. rw (ne_eqb (up k) g (λ w. let e = child_rank k g l (eq-eqb (up k) g w) in let m = its.most k l in omega arith)))

  -- the children of g are listed as often as g is
  children_as_often : (left t g : ℕ) → n ≤ left + rank t
      → children_in up g (listed up n left t) ≡ repeated (times g (t ∷ listed up n left t)) (children_in up g (numbers_below n))
  unfolding listed children_in times repeated
  children_as_often zero t g h =
      ⊎_elim
      (λ u. let same = eqb-true t g u in let z : rank t ≡ rank g = ap rank same in rw (u, no_child g (omega arith)))
      (λ u. rw u)
      (which (eqb t g))
  children_as_often (suc left) t g h =
      children_joined up g (λ k. pick (eqb (up k) t) (k ∷ listed up n left k) []) n
      ∙ ⊎_elim
      (λ u.
      let same = eqb-true t g u in
      let z : rank t ≡ rank g = ap rank same in
      let once : times g (t ∷ listed up n (suc left) t) ≡ 1 = rw u (let r = listed_none (suc left) t g (omega arith) in omega arith) in
      joined_same (λ k. children_in up g (pick (eqb (up k) t) (k ∷ listed up n left k) [])) (λ k. children_in up g (k ∷ [])) n
      (λ k l.
      ⊎_elim
      (λ s.
      let e = child_rank k t l s in
      let none : times g (k ∷ listed up n left k) ≡ 0
      = rw (ne_eqb k g (other_rank k g (omega arith))) (let r = listed_none left k g (omega arith) in omega arith) in
      rw s (ap (λ (r : List ℕ). pick (eqb (up k) g) (k ∷ []) [] ++ r) (children_as_often left k g (omega arith) ∙ ap (λ (m : ℕ). repeated m (children_in up g (numbers_below n))) none)))
      (λ s.
      let here : children_in up g (pick (eqb (up k) t) (k ∷ listed up n left k) []) ≡ [] = rw s in
      here ∙ rw (ne_eqb (up k) g (λ w. eqb-false (up k) t s (w ∙ sym same))))
      (which (eqb (up k) t)))
      ∙ sym (children_joined up g (λ k. k ∷ []) n)
      ∙ sym (ap (λ (m : ℕ). repeated m (children_in up g (numbers_below n))) once ∙ repeated_one (children_in up g (numbers_below n))))
      (λ u.
      let other = eqb-false t g u in
      joined_same (λ k. children_in up g (pick (eqb (up k) t) (k ∷ listed up n left k) []))
      (λ k. repeated (times g (pick (eqb (up k) t) (k ∷ listed up n left k) [])) (children_in up g (numbers_below n))) n
      (λ k l.
      ⊎_elim
      (λ s.
      let e = child_rank k t l s in
      rw (s, ne_eqb (up k) g (λ w. other (sym (eqb-true (up k) t s) ∙ w))) (children_as_often left k g (omega arith)))
      (λ s. rw s)
      (which (eqb (up k) t)))
      ∙ joined_repeated (λ k. times g (pick (eqb (up k) t) (k ∷ listed up n left k) [])) (children_in up g (numbers_below n)) n
      ∙ ap (λ (m : ℕ). repeated m (children_in up g (numbers_below n)))
      (let same = times_joined g (λ k. pick (eqb (up k) t) (k ∷ listed up n left k) []) n in
      let here : times g (t ∷ listed up n (suc left) t) ≡ times g (listed up n (suc left) t) = rw u (omega arith) in
      sym same ∙ sym here))
      (which (eqb t g))

  -- where g, or n, is listed once after n, its children are, and rise
  children_by : (g : ℕ) → times g (n ∷ listed up n n n) ≡ 1 → children_in up g (listed up n n n) ≡ children_in up g (numbers_below n)
  children_by g e =
      let z = its.root in
      children_as_often n n g (omega arith)
      ∙ ap (λ (m : ℕ). repeated m (children_in up g (numbers_below n))) e
      ∙ repeated_one (children_in up g (numbers_below n))

  -- where the children of what f hangs on are listed so, f is listed once
  once_by : (f : ℕ) → children_in up (up f) (listed up n n n) ≡ children_in up (up f) (numbers_below n) → times f (listed up n n n) ≡ pick (ltb f n) 1 0
  once_by f e =
      sym (times_children up f (listed up n n n)) ∙ ap (times f) e ∙ times_children up f (numbers_below n) ∙ times_numbers f n

  once_top : (g : ℕ) → n ≡ g → times g (n ∷ listed up n n n) ≡ 1
  unfolding times
  once_top g e = let z : rank n ≡ rank g = ap rank e in rw (eq-eqb n g e) (let r = listed_none n n g (omega arith) in omega arith)

  -- from n down to fields of rank r
  once_after : (r g : ℕ) → g ≤ n → rank g ≤ r → times g (n ∷ listed up n n n) ≡ 1
  unfolding times
  once_after zero g lg h =
      ⊎_elim
      (λ t. let e = its.next g (ltb-true g n t) in absurd (omega arith))
      (λ t. once_top g (omega (arith, ltb-false g n t)))
      (which (ltb g n))
  once_after (suc r) g lg h =
      ⊎_elim
      (λ t.
      let l = ltb-true g n t in
      let e = its.next g l in
      let u : times g (listed up n n n) ≡ 1 = once_by g (children_by (up g) (once_after r (up g) (its.inside g l) (omega arith))) ∙ rw t in
      rw (ne_eqb n g (λ w. omega arith)) (omega arith))
      (λ t. once_top g (omega (arith, ltb-false g n t)))
      (which (ltb g n))

  children_rise : (g : ℕ) → g ≤ n → children_in up g (listed up n n n) ≡ children_in up g (numbers_below n)
  children_rise g l = children_by g (once_after (rank g) g l (omega arith))

  -- each field is listed once, and no other number is
  once : (f : ℕ) → times f (listed up n n n) ≡ pick (ltb f n) 1 0
  once f =
      ⊎_elim (λ t. once_by f (children_rise (up f) (its.inside f (ltb-true f n t))))
      (λ t. rw t (times_never f (listed up n n n) (each_weaken (λ x l e. omega (arith, ltb-false f n t)) (listed up n n n) (listed_below up n n n))))
      (which (ltb f n))

  pub below_once : (f : ℕ) → times f (fields_in (below up n n 0 n)) ≡ pick (ltb f n) 1 0
  below_once f = ap (times f) (fields_listed up n n 0 n) ∙ once f

  pub below_length : length (below up n n 0 n) ≡ n
  below_length =
      sym (length-map (below up n n 0 n) (λ (x : Entry). x.field))
      ∙ ap length (fields_listed up n n 0 n)
      ∙ sym (times_length n (listed up n n n) (listed_below up n n n))
      ∙ sum_constant 1 (λ f. times f (listed up n n n)) n (λ f l. once f ∙ rw (lt-ltb f n l))
      ∙ omega arith

  -- of a field, and of the number that no field has, on which the top-level fields hang
  pub below_children : (g : ℕ) → g ≤ n → children_in up g (fields_in (below up n n 0 n)) ≡ children_in up g (numbers_below n)
  below_children g l = ap (children_in up g) (fields_listed up n n 0 n) ∙ children_rise g l
