-- The sum of the moves, a field more at a time. Assumes nothing.
use Prim.Native.Nat.{ℕ, ◌+◌, ◌≤◌, ◌<◌}
use mathlib.Core.Path.{◌≡◌, refl, sym, ap, ◌∙◌}
use mathlib.Core.Logic.{⊎_elim}
use mathlib.Core.Bool.{Bool, true, false}
use mathlib.Core.List.{List}
use native.Mathlib.Omega.{arith}
use lib.ListN.{length, set, length-set, take, replicate}
use Rattle.numbers.specs.Choice.{pick}
use Rattle.numbers.proofs.Choice.{clash}
use Rattle.parents.specs.Parents.{Inside, reaches, endless}
use Rattle.chain_moves.specs.Moves.{moves, total_moves, moves_where, climbed}
use Rattle.chain_moves.specs.Followed.{Followed, Known}
use Rattle.std.specs.Prelude.{Option, Some, None}
use Rattle.parents.proofs.Following.{at_set}
use Rattle.parents.proofs.EndlessLaws.{endless_more, endless_found, endless_take}
use Rattle.chain_moves.proofs.MovesLaws.{total_more, total_take}
use Rattle.chain_moves.proofs.Climbing.{followed_none, known_none}

-- the moves from the fields below f are counted
pub record Summing (parents marks steps depths : List ℕ) (n f total : ℕ) : Type 0 where
  pub below : f ≤ n
  pub followed : Followed parents marks steps n f
  pub known : Known parents depths n f
  pub is : total ≡ total_moves parents n f

abbrev how_far : Option ℕ → ℕ
how_far (Some m) = m
how_far None = 0

abbrev ended : Option ℕ → Bool
ended (Some m) = true
ended None = false

-- what a distance says of the chain
module _ (parents : List ℕ) (n f : ℕ) where
  pub away_is : (m : ℕ) → Some m ≡ climbed parents n f → (reaches parents n f ≡ true) × (m ≡ moves parents n f)
  unfolding climbed
  away_is m = by (reaches parents n f)
    where
      by : (b : Bool) → Some m ≡ pick b (Some (moves parents n f)) None → (b ≡ true) × (m ≡ moves parents n f)
      by true e = (refl, ap how_far e)
      by false e = clash refl (ap ended e)

  pub never_is : None ≡ climbed parents n f → reaches parents n f ≡ false
  unfolding climbed
  never_is = by (reaches parents n f)
    where
      by : (b : Bool) → None ≡ pick b (Some (moves parents n f)) None → b ≡ false
      by true e = sym (ap ended e)
      by false e = refl

module _ (parents : List ℕ) (n : ℕ) where
  pub sum_starts : (m : ℕ) → n ≤ m → Summing parents (replicate m 0) (replicate m 0) (replicate m 0) n 0 0
  unfolding total_moves
  sum_starts m h = record { below = omega arith; followed = followed_none parents n m h; known = known_none parents n m h; is = refl }

  module _ (inside : Inside parents n) (marks steps depths : List ℕ) (f total : ℕ) (s : Summing parents marks steps depths n f total) where
    pub sum_goes : f < n → (m : ℕ) → Some m ≡ climbed parents n f → (marks' steps' : List ℕ)
        → (reaches parents n f ≡ true → Followed parents marks' steps' n (f + 1)) → Summing parents marks' steps' (set depths f m) n (f + 1) (total + m)
    sum_goes l m e marks' steps' next =
        let (r, is) = away_is parents n f m e in
        let k : f < length depths = let a = s.known.long in omega arith in
        record {
          below = omega arith;
          followed = next r;
          known = record {
            long = simp length-set s.known.long;
            end = endless_more parents n f s.known.end r;
            depth = λ t h.
                ⊎_elim
                (λ a. a.1 ∙ is ∙ ap (moves parents n) (sym a.0))
                (λ a. a.1 ∙ s.known.depth t (let o = a.0 in omega arith))
                (at_set depths f m k t);
          };
          is = let t = total_more parents n f in let i = s.is in omega arith;
        }

    pub sum_never : f < n → None ≡ climbed parents n f → 0 ≡ moves_where (total_moves (take n parents) n n) (endless (take n parents) n n)
    sum_never l e =
        let r = sym (endless_take parents n inside n (omega arith)) ∙ endless_found parents n f n s.known.end (never_is parents n f e) l in
        rw r

    pub sum_ends : f ≡ n → total ≡ moves_where (total_moves (take n parents) n n) (endless (take n parents) n n)
    sum_ends e =
        let t = s.is ∙ ap (total_moves parents n) e ∙ total_take parents n inside n n (omega arith) in
        let r = sym (endless_take parents n inside n (omega arith)) ∙ ap (endless parents n) (sym e) ∙ s.known.end in
        rw (r, t)
