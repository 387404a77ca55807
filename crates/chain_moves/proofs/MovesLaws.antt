-- Laws of the moves from a field to its self-parented field, and of their sum. Assumes nothing.
use Prim.Native.Nat.{ℕ, zero, suc, ◌+◌, ◌*◌, ◌-◌, ◌/◌, ◌≤◌, ◌<◌}
use mathlib.Core.Path.{◌≡◌, refl, sym, ap, ◌∙◌}
use mathlib.Core.Logic.{⊎_elim}
use mathlib.Core.Bool.{true, false}
use mathlib.Core.List.{List}
use native.Mathlib.Nat.{mul-one, mul-suc, suc-mul, mul-sub}
use native.Mathlib.Numerals.{add-one}
use native.Mathlib.Omega.{arith}
use native.Mathlib.Decide.{le_ind}
use lib.ListN.{get_or, take}
use lib.Seq.{get_or-take}
use Rattle.numbers.specs.Choice.{pick}
use Rattle.parents.specs.Parents.{Inside, meets, top_level, reaches}
use Rattle.chain_moves.specs.Moves.{moves, total_moves}
use Rattle.parents.proofs.Counting.{count, count_all, search_below}
use Rattle.numbers.proofs.Choice.{which}
use Rattle.parents.proofs.ChainLaws.{meets_down, meets_more, meets_le, levels, crossing}

module _ (parents : List ℕ) where
  pub moves_top : (k f : ℕ) → top_level parents f ≡ true → moves parents k f ≡ 0
  unfolding moves
  moves_top zero f t = refl
  moves_top (suc k) f t = rw t

  pub moves_le : (k f : ℕ) → moves parents k f ≤ k
  unfolding moves
  moves_le zero f = omega arith
  moves_le (suc k) f =
      ⊎_elim (λ t. rw t (omega arith)) (λ t. rw t (let r = moves_le k (get_or parents f 0) in omega arith)) (which (top_level parents f))

  -- one move more is counted exactly where k moves do not reach
  moves_more : (k f : ℕ) → moves parents (suc k) f + pick (reaches parents k f) 1 0 ≡ moves parents k f + 1
  unfolding moves meets
  moves_more zero f = ⊎_elim (λ t. rw t (omega arith)) (λ t. rw t (omega arith)) (which (top_level parents f))
  moves_more (suc k) f =
      ⊎_elim (λ t. rw t (omega arith)) (λ t. rw t (let r = moves_more k (get_or parents f 0) in omega arith)) (which (top_level parents f))

  -- more moves count no more, once the chain has ended
  pub moves_settled : (k m f : ℕ) → k ≤ m → reaches parents k f ≡ true → moves parents m f ≡ moves parents k f
  moves_settled k m f h e =
      le_ind (λ (j : ℕ). moves parents j f ≡ moves parents k f) refl
      (λ j l r. let s = moves_more j f in let t = rw (meets_le (top_level parents) parents k j f l e) at s in omega arith) m h

  moves_step : (k f : ℕ) → top_level parents f ≡ false → moves parents (suc k) f ≡ suc (moves parents k (get_or parents f 0))
  unfolding moves
  moves_step k f t = rw t

  -- a move up from a field that is reached, and not the last
  pub moves_up : (k f : ℕ) → reaches parents k f ≡ true → top_level parents f ≡ false
      → (moves parents k f ≡ suc (moves parents k (get_or parents f 0))) × (reaches parents k (get_or parents f 0) ≡ true)
  moves_up k f e t =
      let m = moves_more k f in
      let a : moves parents (suc k) f ≡ moves parents k f = let m' = rw e at m in omega arith in
      let b : moves parents (suc k) f ≡ suc (moves parents k (get_or parents f 0)) = moves_step k f t in
      (sym a ∙ b, meets_down (top_level parents) parents k f t (meets_more (top_level parents) parents k f e))

  sum_more : (k m : ℕ) → total_moves parents (suc k) m + count (meets (top_level parents) parents k) m ≡ total_moves parents k m + m
  unfolding total_moves count
  sum_more k zero = refl
  sum_more k (suc m) = let r = sum_more k m in let s = moves_more k m in omega arith

  pub sum_le : (b k m : ℕ) → k ≤ b → total_moves parents k m ≤ b * m
  unfolding total_moves
  sum_le b k zero h = omega arith
  sum_le b k (suc m) h = let r = sum_le b k m h in let s = moves_le k m in rw (mul-suc b m) (omega arith)

  pub total_more : (k m : ℕ) → total_moves parents k (m + 1) ≡ total_moves parents k m + moves parents k m
  unfolding total_moves
  total_more k m = rw add-one

triangle : ℕ → ℕ
triangle zero = 0
triangle (suc m) = triangle m + suc m

twice_triangle : (m : ℕ) → triangle m + triangle m ≡ m * m + m
unfolding triangle
twice_triangle zero = refl
twice_triangle (suc m) = let r = twice_triangle m in rw (mul-suc (suc m) m, suc-mul m m) (omega arith)

module _ (parents : List ℕ) (n : ℕ) (inside : Inside parents n) (ends : (f : ℕ) → f < n → reaches parents n f ≡ true) where
  -- k moves reach k + 1 fields at least
  reached : (k : ℕ) → k < n → suc k ≤ count (meets (top_level parents) parents k) n
  reached k l =
      ⊎_elim
      (λ all. let r = count_all (meets (top_level parents) parents k) n all in omega arith)
      (λ one.
      let g = crossing (top_level parents) parents n inside k n one.0 one.1 one.2 (ends one.0 one.1) in
      levels (top_level parents) parents n inside k g.0 g.1 g.2 g.3)
      (search_below (meets (top_level parents) parents k) n)

  sum_bound : (k : ℕ) → k ≤ n → total_moves parents k n + triangle k ≤ n * k
  unfolding triangle
  sum_bound zero l = let r = sum_le parents zero zero n (omega arith) in omega arith
  sum_bound (suc k) l =
      let r = sum_bound k (omega arith) in
      let s = sum_more parents k n in
      let q = reached k l in
      rw (mul-suc n k) (omega arith)

  pub total_bound : total_moves parents n n ≤ n * (n - 1) / 2
  total_bound =
      let r = sum_bound n (omega arith) in
      let t = twice_triangle n in
      rw (mul-sub n n 1, mul-one n) (omega arith)

-- two lists that name the same parents below n, as an array and its first n
pub moves_same : (a b : List ℕ) (n : ℕ) → Inside a n → ((x : ℕ) → x < n → get_or a x 0 ≡ get_or b x 0) → (k f : ℕ) → f < n → moves a k f ≡ moves b k f
unfolding moves
moves_same a b n inside same zero f l = refl
moves_same a b n inside same (suc k) f l =
    rw (← same f l) (ap (λ (m : ℕ). pick (top_level a f) 0 (suc m)) (moves_same a b n inside same k (get_or a f 0) (inside f l)))

pub total_take : (parents : List ℕ) (n : ℕ) → Inside parents n → (k m : ℕ) → m ≤ n → total_moves parents k m ≡ total_moves (take n parents) k m
unfolding total_moves
total_take parents n inside k zero l = refl
total_take parents n inside k (suc m) l =
    rw (total_take parents n inside k m (omega arith), moves_same parents (take n parents) n inside (λ x h. sym (get_or-take n parents x 0 h)) k m l)
