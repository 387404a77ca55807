-- Laws of what is joined, and of the order in which fields are listed. Assumes nothing.
use Prim.Native.Nat.{ℕ, zero, suc, ◌+◌, ◌-◌, ◌≤◌, ◌<◌}
use mathlib.Core.Path.{◌≡◌, refl, sym, ap, subst, ◌∙◌}
use mathlib.Core.Logic.{⊎_elim}
use mathlib.Core.List.{List, [], ◌∷◌, ◌++◌, append-nil}
use native.Mathlib.Numerals.{add-one}
use native.Mathlib.Omega.{arith}
use borrow.Author.Tests.{eq-eqb, ne_eqb, ltb-true, ltb-false}
use lib.Dec.{ltb}
use lib.ListN.{length, length-append}
use Rattle.numbers.proofs.Choice.{which}
use Rattle.listing.specs.Order.{Entry, joined, hanging, below, branch}

-- what is joined

pub joined_more : {A : Type 0} (g : ℕ → List A) (k : ℕ) → joined g (k + 1) ≡ joined g k ++ g k
unfolding joined
joined_more g k = rw add-one

-- what is joined up to k, and what k adds, fit where all of it does
pub joined_room : {A : Type 0} (g : ℕ → List A) (k n : ℕ) → k < n → length (joined g k) + length (g k) ≤ length (joined g n)
unfolding joined
joined_room g k zero h = absurd (omega arith)
joined_room g k (suc n) h =
    let e = length-append (joined g n) (g n) in
    ⊎_elim
    (λ t. let r = joined_room g k n (ltb-true k n t) in omega arith)
    (λ t.
    let same : n ≡ k = let l = ltb-false k n t in omega arith in
    subst (λ (j : ℕ). length (joined g j) + length (g j) ≤ length (joined g n ++ g n)) same (omega arith))
    (which (ltb k n))

-- numbers that give nothing add nothing
pub joined_skip : {A : Type 0} (g : ℕ → List A) (a b : ℕ) → a ≤ b → ((j : ℕ) → a ≤ j → j < b → g j ≡ []) → joined g b ≡ joined g a
unfolding joined
joined_skip g a zero l none = let same : 0 ≡ a = omega arith in ap (joined g) same
joined_skip g a (suc b) l none =
    ⊎_elim
    (λ t.
    let r = joined_skip g a b (omega (arith, ltb-true a (suc b) t)) (λ j p q. none j p (omega arith)) in
    rw (none b (omega (arith, ltb-true a (suc b) t)) (omega arith)) (append-nil (joined g b) ∙ r))
    (λ t. let same : suc b ≡ a = let m = ltb-false a (suc b) t in omega arith in ap (joined g) same)
    (which (ltb a (suc b)))

-- what holds of nothing, and of two lists together, holds of what is joined
pub joined_all : {A : Type 0} (such : List A → Type 0) → such [] → ((xs ys : List A) → such xs → such ys → such (xs ++ ys))
    → (g : ℕ → List A) (m : ℕ) → ((k : ℕ) → k < m → such (g k)) → such (joined g m)
unfolding joined
joined_all such none two g zero h = none
joined_all such none two g (suc m) h = two (joined g m) (g m) (joined_all such none two g m (λ k l. h k (omega arith))) (h m (omega arith))

-- what is made of each list apart is made of what is joined
pub joined_each : {A B : Type 0} (made : List A → List B) → made [] ≡ [] → ((xs ys : List A) → made (xs ++ ys) ≡ made xs ++ made ys)
    → (g : ℕ → List A) (m : ℕ) → made (joined g m) ≡ joined (λ k. made (g k)) m
unfolding joined
joined_each made none two g zero = none
joined_each made none two g (suc m) = two (joined g m) (g m) ∙ ap (λ r. r ++ made (g m)) (joined_each made none two g m)

pub joined_same : {A : Type 0} (g h : ℕ → List A) (m : ℕ) → ((k : ℕ) → k < m → g k ≡ h k) → joined g m ≡ joined h m
unfolding joined
joined_same g h zero e = refl
joined_same g h (suc m) e = rw (joined_same g h m (λ k l. e k (omega arith)), e m (omega arith))

-- what hangs on a field

pub below_some : (up : ℕ → ℕ) (n left level above : ℕ) → (left ≡ 0 → ⊥) → below up n left level above ≡ joined (branch up n (left - 1) level above) n
unfolding below
below_some up n zero level above h = absurd (h refl)
below_some up n (suc left) level above h =
    let e : suc left - 1 ≡ left = omega arith in
    ap (λ (m : ℕ). joined (branch up n m level above) n) (sym e)

pub below_none : (up : ℕ → ℕ) (n left level above : ℕ) → left ≡ 0 → below up n left level above ≡ []
unfolding below
below_none up n zero level above e = refl
below_none up n (suc left) level above e = absurd (omega arith)

pub branch_none : (up : ℕ → ℕ) (n left level above k : ℕ) → (up k ≡ above → ⊥) → branch up n left level above k ≡ []
branch_none up n left level above k e = rw (ne_eqb (up k) above e)

pub branch_some : (up : ℕ → ℕ) (n left level above k : ℕ) → up k ≡ above
    → branch up n left level above k ≡ record { field = k; level = level } ∷ below up n left (level + 1) k
branch_some up n left level above k e = rw (eq-eqb (up k) above e, add-one level)

-- the order depends only on what the fields below n hang on
pub below_same : (up up' : ℕ → ℕ) (n : ℕ) → ((k : ℕ) → k < n → up k ≡ up' k) → (left level g : ℕ) → below up n left level g ≡ below up' n left level g
unfolding below
below_same up up' n e zero level g = refl
below_same up up' n e (suc left) level g =
    joined_same (branch up n left level g) (branch up' n left level g) n
    (λ k l. rw (e k l) (ap (λ (r : List Entry). hanging up' level g r k) (below_same up up' n e left (suc level) k)))
