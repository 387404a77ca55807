-- Laws of parent chains: as many moves as there are fields are enough.
-- Assumes nothing.
use Prim.Native.Nat.{ℕ, zero, suc, ◌≤◌, ◌<◌}
use mathlib.Core.Path.{◌≡◌, refl, sym, ap, ap₂, ◌∙◌}
use mathlib.Core.Logic.{⊎_elim, ◌↔◌}
use mathlib.Core.Bool.{Bool, true, false}
use mathlib.Core.List.{List}
use native.Mathlib.Omega.{arith}
use native.Mathlib.Decide.{le_ind}
use lib.ListN.{get_or}
use lib.Dec.{eqb}
use borrow.Author.Tests.{eqb-true, eq-eqb}
use Rattle.numbers.specs.Choice.{pick}
use Rattle.parents.specs.Parents.{Inside, ancestor, meets, top_level, Reaches, reaches, Above, is_above}
use Rattle.parents.proofs.Counting.{count, count_le, count_more}
use Rattle.numbers.proofs.Choice.{which, clash, is_false}

pick_or : (b : Bool) {x : Bool} → x ≡ true → pick b true x ≡ true
pick_or true e = refl
pick_or false e = e

-- a field of the chain and the next one
pub ancestor_next : (parents : List ℕ) (k f : ℕ) → ancestor parents (suc k) f ≡ get_or parents (ancestor parents k f) 0
unfolding ancestor
ancestor_next parents zero f = refl
ancestor_next parents (suc k) f = ancestor_next parents k (get_or parents f 0)

module _ (test : ℕ → Bool) (parents : List ℕ) where
  pub meets_here : (k f : ℕ) → test f ≡ true → meets test parents k f ≡ true
  unfolding meets
  meets_here zero f e = e
  meets_here (suc k) f e = rw e

  pub meets_zero : (f : ℕ) → meets test parents zero f ≡ true → test f ≡ true
  unfolding meets
  meets_zero f e = e

  pub meets_up : (k f : ℕ) → meets test parents k (get_or parents f 0) ≡ true → meets test parents (suc k) f ≡ true
  unfolding meets
  meets_up k f e = pick_or (test f) e

  pub meets_down : (k f : ℕ) → test f ≡ false → meets test parents (suc k) f ≡ true → meets test parents k (get_or parents f 0) ≡ true
  unfolding meets
  meets_down k f n e = rw n at e

  pub meets_more : (k f : ℕ) → meets test parents k f ≡ true → meets test parents (suc k) f ≡ true
  meets_more zero f e = meets_here (suc zero) f (unfold meets in e)
  meets_more (suc k) f e =
      ⊎_elim (meets_here (suc (suc k)) f)
      (λ n. meets_up (suc k) f (meets_more k (get_or parents f 0) (meets_down k f n e)))
      (which (test f))

  pub meets_le : (k m f : ℕ) → k ≤ m → meets test parents k f ≡ true → meets test parents m f ≡ true
  meets_le k m f h e = le_ind (λ (j : ℕ). meets test parents j f ≡ true) e (λ j _ r. meets_more j f r) m h

  pub meets_of_ancestor : (k f : ℕ) → test (ancestor parents k f) ≡ true → meets test parents k f ≡ true
  unfolding meets ancestor
  meets_of_ancestor zero f e = e
  meets_of_ancestor (suc k) f e = pick_or (test f) (meets_of_ancestor k (get_or parents f 0) e)

  pub ancestor_of_meets : (k f : ℕ) → meets test parents k f ≡ true → (j : ℕ) × (test (ancestor parents j f) ≡ true)
  unfolding ancestor
  ancestor_of_meets zero f e = (zero, unfold meets in e)
  ancestor_of_meets (suc k) f e =
      ⊎_elim (λ t. (zero, t))
      (λ n. let r = ancestor_of_meets k (get_or parents f 0) (meets_down k f n e) in (suc r.0, r.1))
      (which (test f))

  -- the pigeonhole: where a field of n needs k + 1 moves, k + 1 fields need at most k
  module _ (n : ℕ) (inside : Inside parents n) where
    pub levels : (k f : ℕ) → f < n → meets test parents k f ≡ false → meets test parents (suc k) f ≡ true → suc k ≤ count (meets test parents k) n
    levels zero f l e t =
        let up : meets test parents zero (get_or parents f 0) ≡ true = meets_down zero f (unfold meets in e) t in
        let r = count_more (λ _. false) (meets test parents zero) n (λ x _ z. clash z refl) (get_or parents f 0) (inside f l) refl up in
        omega arith
    levels (suc k) f l e t =
        let here : test f ≡ false = is_false (test f) (λ m. clash (meets_here (suc k) f m) e) in
        let more : meets test parents (suc k) (get_or parents f 0) ≡ true = meets_down (suc k) f here t in
        let less : meets test parents k (get_or parents f 0) ≡ false = is_false _ (λ m. clash (meets_up k f m) e) in
        let r = levels k (get_or parents f 0) (inside f l) less more in
        let s = count_more (meets test parents k) (meets test parents (suc k)) n (λ x _. meets_more k x) (get_or parents f 0) (inside f l) less more in
        omega arith

    -- where a field needs more than k moves, one on its chain needs k + 1
    pub crossing : (k m f : ℕ) → f < n → meets test parents k f ≡ false → meets test parents m f ≡ true
        → (g : ℕ) × (g < n) × (meets test parents k g ≡ false) × (meets test parents (suc k) g ≡ true)
    crossing k zero f l e t = clash (meets_le zero k f (omega arith) t) e
    crossing k (suc m) f l e t =
        ⊎_elim (λ y. (f, l, e, y))
        (λ u.
        crossing k m (get_or parents f 0) (inside f l)
        (is_false _ (λ y. clash (meets_up k f y) u))
        (meets_down m f (is_false _ (λ y. clash (meets_here k f y) e)) t))
        (which (meets test parents (suc k) f))

    -- n moves are enough
    pub settled : (k f : ℕ) → f < n → meets test parents k f ≡ true → meets test parents n f ≡ true
    settled zero f l e = meets_le zero n f (omega arith) e
    settled (suc k) f l e =
        ⊎_elim (settled k f l)
        (λ m. let r = levels k f l m e in let b = count_le (meets test parents k) n in meets_le (suc k) n f (omega arith) e)
        (which (meets test parents k f))

    -- within n moves exactly where by some number of moves
    pub settled_iff : (f : ℕ) → f < n → (meets test parents n f ≡ true) ↔ ((k : ℕ) × (test (ancestor parents k f) ≡ true))
    settled_iff f l = (ancestor_of_meets n f, λ r. settled r.0 f l (meets_of_ancestor r.0 f r.1))

-- a chain ends within as many moves as there are fields, or never
pub reaches_iff : (parents : List ℕ) (n : ℕ) → Inside parents n → (f : ℕ) → f < n → (reaches parents n f ≡ true) ↔ Reaches parents f
reaches_iff parents = settled_iff (top_level parents) parents

pub is_above_iff : (parents : List ℕ) (n : ℕ) → Inside parents n → (f g : ℕ) → g < n → (is_above parents n f g ≡ true) ↔ Above parents f g
is_above_iff parents n inside f g l =
    let r = settled_iff (eqb f) parents n inside g l in
    (λ e. let s = r.0 e in (s.0, sym (eqb-true f _ s.1)), λ s. r.1 (s.0, eq-eqb f _ (sym s.1)))

-- two lists that name the same parents below n, as an array and its first n
module _ (a b : List ℕ) (n : ℕ) (inside : Inside a n) (same : (x : ℕ) → x < n → get_or a x 0 ≡ get_or b x 0) where
  meets_same : (s t : ℕ → Bool) → ((x : ℕ) → x < n → s x ≡ t x) → (k f : ℕ) → f < n → meets s a k f ≡ meets t b k f
  unfolding meets
  meets_same s t e zero f l = e f l
  meets_same s t e (suc k) f l =
      ap₂ (λ (p q : Bool). pick p true q) (e f l) (meets_same s t e k (get_or a f 0) (inside f l) ∙ ap (meets t b k) (same f l))

  pub reaches_same : (k f : ℕ) → f < n → reaches a k f ≡ reaches b k f
  reaches_same = meets_same (top_level a) (top_level b) (λ x l. ap (λ (p : ℕ). eqb p x) (same x l))

  pub is_above_same : (k f g : ℕ) → g < n → is_above a k f g ≡ is_above b k f g
  is_above_same k f = meets_same (eqb f) (eqb f) (λ x l. refl) k
