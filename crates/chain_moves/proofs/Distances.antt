-- Moves with no bound on how many there are, the cap on their sum, and the chain that reaches it. Assumes nothing.
use Prim.Native.Nat.{ℕ, zero, suc, ◌+◌, ◌*◌, ◌-◌, ◌≤◌, ◌<◌}
use mathlib.Core.Path.{◌≡◌, refl, sym, ap, ◌∙◌}
use mathlib.Core.Logic.{⊎_elim}
use mathlib.Core.Bool.{true, false}
use mathlib.Core.List.{List, [], ◌∷◌, ◌++◌}
use native.Mathlib.Omega.{arith}
use native.Mathlib.Nat.{mul-one, mul-suc, suc-mul, mul-sub}
use native.Mathlib.Decide.{dec_le}
use lib.ListN.{length, get_or, take, length-append, get_or-append}
use lib.Seq.{get_or-append-add}
use borrow.Author.Tests.{eq-eqb, ne_eqb}
use Rattle.numbers.proofs.Choice.{which, clash}
use Rattle.rows.specs.Words.{most_fields}
use Rattle.std.specs.Prelude.{None}
use Rattle.parents.specs.Parents.{Inside, ancestor, meets, top_level, reaches, endless}
use Rattle.chain_moves.specs.Moves.{moves, total_moves, all_moves, moves_of}
use Rattle.chain_moves.specs.Distances.{TopAfter, sum_below, Rooted, chain_of, AllMovesAsDefined, AllMovesCapped, ChainsReachCap}
use Rattle.parents.proofs.InsideLaws.{inside_front}
use Rattle.parents.proofs.ChainLaws.{meets_here, meets_up}
use Rattle.parents.proofs.EndlessLaws.{all_reach_iff, reach_each, reach_all}
use Rattle.chain_moves.proofs.MovesLaws.{moves_top, moves_up, total_bound}

module _ (parents : List ℕ) where
  top_here : (f : ℕ) → top_level parents f ≡ true → TopAfter parents 0 f
  unfolding ancestor
  top_here f t = record { top = t; before = λ j l. absurd (omega arith) }

  top_up : (k f : ℕ) → top_level parents f ≡ false → TopAfter parents k (get_or parents f 0) → TopAfter parents (suc k) f
  unfolding ancestor
  top_up k f t a =
      record {
        top = a.top;
        before = λ j. elim j as (λ i. i < suc k → top_level parents (ancestor parents i f) ≡ false) [ zero ↦ (λ l. t) | suc i ↦ (λ l. a.before i (omega arith)) ];
      }

  -- what is counted within n moves, where the chain ends within them
  moves_after : (n f : ℕ) → reaches parents n f ≡ true → TopAfter parents (moves parents n f) f
  unfolding moves meets
  moves_after zero f e = top_here f e
  moves_after (suc n) f e =
      ⊎_elim (λ t. rw t (top_here f t)) (λ t. rw t (top_up _ f t (moves_after n (get_or parents f 0) (rw t at e)))) (which (top_level parents f))

  after_unique : (j k f : ℕ) → TopAfter parents j f → TopAfter parents k f → j ≡ k
  after_unique j k f a b =
      elim (dec_le (suc j) k) [
        | yes l ↦ clash a.top (b.before j l)
        | no m ↦ elim (dec_le (suc k) j) [ yes l ↦ clash b.top (a.before k l) | no l ↦ omega arith ]
      ]

  sum_total : (n m : ℕ) → sum_below (moves parents n) m ≡ total_moves parents n m
  unfolding sum_below total_moves
  sum_total n zero = refl
  sum_total n (suc m) = rw (sum_total n m)

pub sum_same : (each other : ℕ → ℕ) (n : ℕ) → ((f : ℕ) → f < n → each f ≡ other f) → sum_below each n ≡ sum_below other n
unfolding sum_below
sum_same each other zero e = refl
sum_same each other (suc n) e = rw (sum_same each other n (λ f l. e f (omega arith)), e n (omega arith))

rooted_reach : (parents : List ℕ) → Rooted parents → (f : ℕ) → f < length parents → reaches parents (length parents) f ≡ true
rooted_reach parents rooted f l = reach_each parents (length parents) f rooted.ends l

pub all_moves_as_defined : AllMovesAsDefined
unfolding all_moves
all_moves_as_defined parents rooted total =
    let n = length parents in
    let after : (f : ℕ) → f < n → TopAfter parents (moves parents n f) f = λ f l. moves_after parents n f (rooted_reach parents rooted f l) in (
      λ e. record { moves = moves parents n; counted = after; sum = sum_total parents n n ∙ e },
      λ s. sym (sum_total parents n n) ∙ sum_same (moves parents n) s.moves n (λ f l. after_unique parents _ _ f (after f l) (s.counted f l)) ∙ s.sum,
    )

pub all_moves_capped : AllMovesCapped
unfolding all_moves
all_moves_capped parents rooted = total_bound parents (length parents) rooted.fields (rooted_reach parents rooted)

-- the chain

chain_length : (n : ℕ) → length (chain_of n) ≡ n
unfolding chain_of
chain_length zero = refl
chain_length (suc n) = length-append (chain_of n) ((n - 1) ∷ []) ∙ (let r = chain_length n in omega arith)

chain_at : (n f : ℕ) → f < n → get_or (chain_of n) f 0 ≡ f - 1
unfolding chain_of
chain_at zero f l = absurd (omega arith)
chain_at (suc n) f l =
    let long = chain_length n in
    elim (dec_le (suc f) n) [
      | yes m ↦ get_or-append (chain_of n) ((n - 1) ∷ []) 0 f (omega arith) ∙ chain_at n f m
      | no m ↦
          let same : f ≡ length (chain_of n) + 0 = omega arith in
          ap (λ (i : ℕ). get_or (chain_of n ++ ((n - 1) ∷ [])) i 0) same ∙ get_or-append-add (chain_of n) ((n - 1) ∷ []) 0 0 ∙ (let r : n ≡ f = omega arith in omega arith)
    ]

module _ (n : ℕ) where
  chain_top : 0 < n → top_level (chain_of n) 0 ≡ true
  chain_top l = eq-eqb (get_or (chain_of n) 0 0) 0 (chain_at n 0 l)

  chain_inner : (f : ℕ) → suc f < n → top_level (chain_of n) (suc f) ≡ false
  chain_inner f l = ne_eqb (get_or (chain_of n) (suc f) 0) (suc f) (λ e. let r = chain_at n (suc f) l in omega arith)

  chain_up : (f : ℕ) → suc f < n → get_or (chain_of n) (suc f) 0 ≡ f
  chain_up f l = let r = chain_at n (suc f) l in omega arith

  -- f moves from field f
  chain_moves : (f k : ℕ) → f < n → f ≤ k → (reaches (chain_of n) k f ≡ true) × (moves (chain_of n) k f ≡ f)
  chain_moves zero k l h = (meets_here (top_level (chain_of n)) (chain_of n) k zero (chain_top l), moves_top (chain_of n) k zero (chain_top l))
  chain_moves (suc f) zero l h = absurd (omega arith)
  chain_moves (suc f) (suc k) l h =
      let up = chain_up f l in
      let r : reaches (chain_of n) (suc k) (suc f) ≡ true
      = meets_up (top_level (chain_of n)) (chain_of n) k (suc f) (ap (reaches (chain_of n) k) up ∙ (chain_moves f k (omega arith) (omega arith)).0) in
      (r, (moves_up (chain_of n) (suc k) (suc f) r (chain_inner f l)).0 ∙ ap suc (ap (moves (chain_of n) (suc k)) up ∙ (chain_moves f (suc k) (omega arith) (omega arith)).1))

  chain_sum : (m : ℕ) → m ≤ n → total_moves (chain_of n) n m + total_moves (chain_of n) n m + m ≡ m * m
  unfolding total_moves
  chain_sum zero l = refl
  chain_sum (suc m) l =
      let r = chain_sum m (omega arith) in
      let s = (chain_moves m n l (omega arith)).1 in
      rw (mul-suc (suc m) m, suc-mul m m) (omega arith)

  chain_rooted : Rooted (chain_of n)
  chain_rooted =
      let long = chain_length n in
      record {
        fields = λ f l. let r = chain_at n f (omega arith) in omega arith;
        ends = reach_all (chain_of n) (length (chain_of n)) (λ f l. (chain_moves f (length (chain_of n)) (omega arith) (omega arith)).0);
      }

pub chains_reach_cap : ChainsReachCap
unfolding all_moves
chains_reach_cap n =
    record {
      long = chain_length n;
      rooted = chain_rooted n;
      reached = rw (chain_length n, mul-sub n n 1, mul-one n) (let s = chain_sum n n (omega arith) in omega arith);
    }

-- the first n of an array of parents
pub moves_front : (parents : List ℕ) (n : ℕ) (ys : List ℕ) → n ≤ most_fields → take n parents ≡ ys → length ys ≡ n → Rooted ys → moves_of parents n ≡ all_moves ys
unfolding moves_of all_moves
moves_front parents n ys few same count rooted =
    let inner : Inside ys n = λ f l. let r = rooted.fields f (omega arith) in omega arith in
    let ends : endless ys n n ≡ None = rw count at ((all_reach_iff ys (length ys)).0 rooted.ends) in
    rw (inside_front parents n ys few same count inner, same, ends, count)
