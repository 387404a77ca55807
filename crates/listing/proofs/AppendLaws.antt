-- The order of fields after which self-parented ones were appended.
use Prim.Native.Nat.{ℕ, zero, suc, ◌+◌, ◌≤◌, ◌<◌}
use mathlib.Core.Path.{◌≡◌, refl, sym, ap, ap₂, ◌∙◌}
use mathlib.Core.Logic.{⊎_elim}
use mathlib.Core.List.{List, [], ◌∷◌, ◌++◌, append-nil, append_assoc}
use native.Mathlib.Nat.{add-zero, add-suc}
use native.Mathlib.Omega.{arith}
use borrow.Author.Tests.{eq-eqb, ne_eqb, ltb-true, ltb-false}
use lib.Dec.{eqb, ltb}
use lib.ListN.{length, get_or, length-append, get_or-append}
use Rattle.numbers.specs.Rows.{flat_by}
use Rattle.numbers.proofs.Choice.{which}
use Rattle.parents.specs.Parents.{top_level}
use Rattle.chain_moves.specs.Distances.{Rooted}
use Rattle.listing.specs.Order.{Entry, joined, holder, hanging, below, branch, order}
use Rattle.listing.proofs.OrderLaws.{joined_same, joined_skip, branch_none}
use Rattle.listing.proofs.ListedLaws.{Ranked, child_rank}
use Rattle.listing.proofs.RankLaws.{ranked}

-- what is joined up to a number, and from there on
pub joined_split : {A : Type 0} (g : ℕ → List A) (n m : ℕ) → joined g (n + m) ≡ joined g n ++ joined (λ j. g (n + j)) m
unfolding joined
joined_split g n zero = ap (joined g) (add-zero n) ∙ sym (append-nil (joined g n))
joined_split g n (suc m) =
    ap (joined g) (add-suc n m) ∙ ap (λ r. r ++ g (n + m)) (joined_split g n m) ∙ append_assoc (joined g n) (joined (λ j. g (n + j)) m) (g (n + m))

-- the first number's apart
joined_first : {A : Type 0} (g : ℕ → List A) (m : ℕ) → joined g (suc m) ≡ g 0 ++ joined (λ j. g (suc j)) m
unfolding joined
joined_first g zero = sym (append-nil (g 0))
joined_first g (suc m) = ap (λ r. r ++ g (suc m)) (joined_first g m) ∙ append_assoc (g 0) (joined (λ j. g (suc j)) m) (g (suc m))

-- what is joined is made of the things of a list, one after the other, by their numbers
pub joined_by_lem : {A : Type 0} (g : ℕ → List ℕ) (v : ℕ → A → List ℕ) (other : A) (n : ℕ) (xs : List A) → ((i : ℕ) → i < length xs → g i ≡ v (n + i) (get_or xs i other))
    → joined g (length xs) ≡ flat_by v n xs
unfolding joined flat_by
joined_by_lem g v other n [] e = refl
joined_by_lem g v other n (x ∷ xs) e =
    joined_first g (length xs)
    ∙ rw (e 0 (omega arith), add-zero n)
    (ap (λ r. v n x ++ r)
    (joined_by_lem (λ j. g (suc j)) v other (suc n) xs (λ i l. e (suc i) (omega arith) ∙ ap (λ (k : ℕ). v k (get_or xs i other)) (omega arith))))

-- as many levels as there are fields are enough
below_settled : {up : ℕ → ℕ} {n : ℕ} {depth : ℕ → ℕ} → Ranked up n depth → (left more level t : ℕ) → left ≤ more → n ≤ left + depth t
    → below up n more level t ≡ below up n left level t
unfolding below joined
below_settled its zero zero level t l h = refl
below_settled {up} {n} its zero (suc more) level t l h =
    joined_skip (branch up n more level t) 0 n (omega arith)
    (λ k _ k-is. branch_none up n more level t k (λ w. let e = child_rank its k t k-is (eq-eqb (up k) t w) in let m = its.most k k-is in omega arith))
below_settled its (suc left) zero level t l h = absurd (omega arith)
below_settled {up} {n} its (suc left) (suc more) level t l h =
    joined_same (branch up n more level t) (branch up n left level t) n
    (λ k k-is.
    ⊎_elim
    (λ s.
    let e = child_rank its k t k-is s in
    rw s (ap (λ (r : List Entry). record { field = k; level = level } ∷ r) (below_settled its left more (suc level) k (omega arith) (omega arith))))
    (λ s. rw s)
    (which (eqb (up k) t)))

-- a top-level field
abbrev pub at_top : ℕ → Entry
at_top k = record { field = k; level = 0 }

module _ (old new : List ℕ) (rooted : Rooted old) (tops : (f : ℕ) → length old ≤ f → f < length (old ++ new) → get_or (old ++ new) f 0 ≡ f) where
  abbrev all : List ℕ
  all = old ++ new

  longer : length old ≤ length all
  longer = let e = length-append old new in omega arith

  same_parent : (k : ℕ) → k < length old → get_or all k 0 ≡ get_or old k 0
  same_parent k l = get_or-append old new 0 k l

  -- an earlier field hangs on a field as it did, and on the number of fields where it did
  hangs_on : (k g : ℕ) → k < length old → g < length old → eqb (holder all k) g ≡ eqb (holder old k) g
  hangs_on k g l lg =
      rw (same_parent k l)
      (⊎_elim (λ t. let m = longer in rw (t, ne_eqb (length all) g (λ w. omega arith), ne_eqb (length old) g (λ w. omega arith))) (λ t. rw t) (which (top_level old k)))

  hangs_free : (k : ℕ) → k < length old → eqb (holder all k) (length all) ≡ eqb (holder old k) (length old)
  hangs_free k l =
      let m = longer in
      let i = rooted.fields k l in
      rw (same_parent k l)
      (⊎_elim
      (λ t. rw t (eq-eqb (length all) (length all) refl ∙ sym (eq-eqb (length old) (length old) refl)))
      (λ t. rw (t, ne_eqb (get_or old k 0) (length all) (λ w. omega arith), ne_eqb (get_or old k 0) (length old) (λ w. omega arith)))
      (which (top_level old k)))

  new_free : (k : ℕ) → length old ≤ k → k < length all → holder all k ≡ length all
  new_free k l m = rw (eq-eqb (get_or all k 0) k (tops k l m))

  -- no field hangs on one that was appended
  none_on_new : (k g : ℕ) → k < length all → length old ≤ g → g < length all → holder all k ≡ g → ⊥
  none_on_new k g l lg m e =
      ⊎_elim
      (λ t.
      let k-is = ltb-true k (length old) t in
      let i = rooted.fields k k-is in
      let p = same_parent k k-is in
      ⊎_elim (λ u. let w = rw u at e in omega arith) (λ u. let w = rw u at e in omega arith) (which (top_level all k)))
      (λ t. let w = new_free k (ltb-false k (length old) t) l in omega arith)
      (which (ltb k (length old)))

  -- so the same is listed below an earlier field, and nothing below one that was appended

  below_old : (left level g : ℕ) → g < length old → below (holder all) (length all) left level g ≡ below (holder old) (length old) left level g
  unfolding below
  below_old zero level g lg = refl
  below_old (suc left) level g lg =
      joined_skip (branch (holder all) (length all) left level g) (length old) (length all) longer
      (λ k l m. branch_none (holder all) (length all) left level g k (λ w. let f = new_free k l m in omega arith))
      ∙ joined_same (branch (holder all) (length all) left level g) (branch (holder old) (length old) left level g) (length old)
      (λ k l. rw (hangs_on k g l lg) (ap (λ (r : List Entry). hanging (holder old) level g r k) (below_old left (suc level) k l)))

  below_new : (left level g : ℕ) → length old ≤ g → g < length all → below (holder all) (length all) left level g ≡ []
  unfolding below joined
  below_new zero level g l m = refl
  below_new (suc left) level g l m =
      joined_skip (branch (holder all) (length all) left level g) 0 (length all) (omega arith)
      (λ k _ k-is. branch_none (holder all) (length all) left level g k (none_on_new k g k-is l m))

  -- the top-level fields, with what is below each
  below_all : (left : ℕ) → left ≡ length all
      → below (holder all) (length all) left 0 (length all) ≡ below (holder old) (length old) left 0 (length old) ++ joined (λ j. at_top (length old + j) ∷ []) (length new)
  unfolding below joined
  below_all zero e =
      let z : length new ≡ 0 = let m = length-append old new in omega arith in
      ap (joined (λ j. at_top (length old + j) ∷ [])) (sym z)
  below_all (suc left) e =
      let row = branch (holder all) (length all) left 0 (length all) in
      let long = length-append old new in
      ap (joined row) long
      ∙ joined_split row (length old) (length new)
      ∙ ap₂ ◌++◌
      (joined_same row (branch (holder old) (length old) left 0 (length old)) (length old)
      (λ k l. rw (hangs_free k l) (ap (λ (r : List Entry). hanging (holder old) 0 (length old) r k) (below_old left 1 k l))))
      (joined_same (λ j. row (length old + j)) (λ j. at_top (length old + j) ∷ []) (length new)
      (λ j l.
      let k = length old + j in
      rw (eq-eqb (holder all k) (length all) (new_free k (omega arith) (omega arith)), below_new left 1 k (omega arith) (omega arith))))

  pub order_appended : order (old ++ new) ≡ order old ++ joined (λ j. at_top (length old + j) ∷ []) (length new)
  unfolding order
  order_appended =
      let z = (ranked old rooted).root in
      below_all (length all) refl
      ∙ ap (λ (r : List Entry). r ++ joined (λ j. at_top (length old + j) ∷ []) (length new))
      (below_settled (ranked old rooted) (length old) (length all) 0 (length old) longer (omega arith))
