-- The rank of a field: one more than its moves to the top. Where every chain ends, each field is listed once, with its children rising.
use Prim.Native.Nat.{ℕ, suc, ◌-◌, ◌≤◌, ◌<◌}
use mathlib.Core.Path.{◌≡◌, refl, sym, ap, subst, ◌∙◌}
use mathlib.Core.Logic.{⊎_elim}
use mathlib.Core.Bool.{true}
use mathlib.Core.List.{List}
use native.Mathlib.Omega.{arith}
use borrow.Author.Tests.{eq-eqb, ne_eqb}
use lib.Dec.{eqb, ltb}
use lib.ListN.{length, get_or}
use Rattle.numbers.specs.Choice.{pick}
use Rattle.numbers.proofs.Choice.{which}
use Rattle.parents.specs.Parents.{meets, top_level, reaches}
use Rattle.parents.proofs.Counting.{count_le, count_more}
use Rattle.parents.proofs.ChainLaws.{levels}
use Rattle.parents.proofs.EndlessLaws.{reach_each}
use Rattle.chain_moves.specs.Moves.{moves}
use Rattle.chain_moves.specs.Distances.{Rooted}
use Rattle.chain_moves.proofs.MovesLaws.{moves_top, moves_up, moves_le, moves_settled}
use Rattle.listing.specs.Order.{holder, order}
use Rattle.listing.specs.Listed.{fields_in, times, numbers_below, children_in}
use Rattle.numbers.specs.Lists.{Each}
use Rattle.listing.proofs.ListedLaws.{Ranked, below_once, below_length, below_within, below_children}

-- the number that is no field's, on which the top-level fields hang, has rank 0
abbrev pub rank : List ℕ → ℕ → ℕ
rank parents k = pick (eqb k (length parents)) 0 (suc (moves parents (length parents) k))

module _ (parents : List ℕ) where
  pub rank_field : (k : ℕ) → k < length parents → rank parents k ≡ suc (moves parents (length parents) k)
  rank_field k l = rw (ne_eqb k (length parents) (λ w. omega arith))

  rank_root : rank parents (length parents) ≡ 0
  rank_root = rw (eq-eqb (length parents) (length parents) refl)

  top_on_root : (k : ℕ) → top_level parents k ≡ true → holder parents k ≡ length parents
  top_on_root k t = rw t

  module _ (rooted : Rooted parents) where
    ends : (f : ℕ) → f < length parents → reaches parents (length parents) f ≡ true
    ends f l = reach_each parents (length parents) f rooted.ends l

    -- fewer moves than fields are enough: each number of moves that is not reaches one field more
    short : (f : ℕ) → f < length parents → reaches parents (length parents - 1) f ≡ true
    short f l =
        let n = length parents in
        ⊎_elim (λ t. t)
        (λ u.
        let e : n ≡ suc (n - 1) = omega arith in
        let deep : meets (top_level parents) parents (suc (n - 1)) f ≡ true = subst (λ (m : ℕ). reaches parents m f ≡ true) e (ends f l) in
        let r = levels (top_level parents) parents n rooted.fields (n - 1) f l u deep in
        let s = count_more (meets (top_level parents) parents (n - 1)) (λ _. true) n (λ x _ _. refl) f l u refl in
        let b = count_le (λ _. true) n in
        absurd (omega arith))
        (which (reaches parents (n - 1) f))

    pub ranked : Ranked (holder parents) (length parents) (rank parents)
    ranked =
        let n = length parents in
        record {
          root = rank_root;
          inside = λ k l. ⊎_elim (λ t. rw t (omega arith)) (λ t. rw t (let i = rooted.fields k l in omega arith)) (which (top_level parents k));
          next = λ k l.
              rank_field k l
              ∙ ⊎_elim
              (λ t. ap suc (moves_top parents n k t ∙ sym (ap (rank parents) (top_on_root k t) ∙ rank_root)))
              (λ t.
              let u : holder parents k ≡ get_or parents k 0 = rw t in
              ap suc ((moves_up parents n k (ends k l) t).0 ∙ sym (ap (rank parents) u ∙ rank_field (get_or parents k 0) (rooted.fields k l))))
              (which (top_level parents k));
          most = λ k l.
              let e = rank_field k l in
              let s = moves_settled parents (n - 1) n k (omega arith) (short k l) in
              let m = moves_le parents (n - 1) k in
              omega arith;
        }

    pub listed_once : (f : ℕ) → times f (fields_in (order parents)) ≡ pick (ltb f (length parents)) 1 0
    unfolding order
    listed_once = below_once ranked

    pub as_many : length (order parents) ≡ length parents
    unfolding order
    as_many = below_length ranked

    pub order_few : length parents ≤ 512 → length (order parents) ≤ 512
    order_few few = let e = as_many in omega arith

    pub children_listed : (g : ℕ) → g ≤ length parents → children_in (holder parents) g (fields_in (order parents)) ≡ children_in (holder parents) g (numbers_below (length parents))
    unfolding order
    children_listed = below_children ranked

  -- every entry is a field's
  pub order_within : Each (λ x. x < length parents) (fields_in (order parents))
  unfolding order
  order_within = below_within (holder parents) (length parents) (length parents) 0 (length parents)
