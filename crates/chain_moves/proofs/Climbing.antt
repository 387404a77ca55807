-- A chain followed with its moves counted: what holds at each field on the way, and what the outcome then says. Assumes nothing.
use Prim.Native.Nat.{ℕ, zero, ◌+◌, ◌-◌, ◌≤◌, ◌<◌}
use mathlib.Core.Path.{◌≡◌, refl, sym, ap, ◌∙◌}
use mathlib.Core.Logic.{⊎_elim}
use mathlib.Core.Bool.{true, false}
use mathlib.Core.List.{List}
use native.Mathlib.Omega.{arith}
use native.Mathlib.Decide.{ℕ_discrete}
use lib.Dec.{eqb}
use lib.ListN.{length, get_or, set, length-set, replicate, length-replicate, get_or-replicate}
use Rattle.parents.specs.Parents.{Inside, top_level, reaches, endless}
use Rattle.chain_moves.specs.Moves.{moves, climbed}
use Rattle.chain_moves.specs.Followed.{Followed, Known}
use Rattle.std.specs.Prelude.{Some, None}
use Rattle.numbers.proofs.Choice.{clash}
use Rattle.parents.proofs.Counting.{count_le}
use Rattle.parents.proofs.Following.{Walk, Ends, at_set, blank, blank_less, marked_none, walk_starts, walk_goes, walk_ends, walk_loops}
use Rattle.parents.proofs.EndlessLaws.{lowest}
use Rattle.chain_moves.proofs.MovesLaws.{moves_top, moves_up}
use Rattle.parents.proofs.ChainLaws.{meets_here}

-- the walk from start has come to f by so many moves
pub record Climbing (parents marks steps : List ℕ) (n start f count : ℕ) : Type 0 where
  pub walk : Walk parents marks n start f
  pub long : n ≤ length steps
  -- each move has marked a field
  pub few : count + blank marks n ≤ n
  pub here : reaches parents n start ≡ true → moves parents n f + count ≡ moves parents n start
  pub apart : (x t : ℕ) → x < n → get_or marks x 0 ≡ t + 1 → reaches parents n t ≡ true → moves parents n x + get_or steps x 0 ≡ moves parents n t

-- nothing has been followed, and nothing is known
pub followed_none : (parents : List ℕ) (n m : ℕ) → n ≤ m → Followed parents (replicate m 0) (replicate m 0) n 0
followed_none parents n m h =
    record {
      marked = marked_none parents n m h;
      long = simp length-replicate h;
      apart = λ x t l e. absurd (let r = get_or-replicate {A = ℕ} m x 0 0 (omega arith) in omega arith);
    }

pub known_none : (parents : List ℕ) (n m : ℕ) → n ≤ m → Known parents (replicate m 0) n 0
unfolding endless
known_none parents n m h = record { long = simp length-replicate h; end = refl; depth = λ t l. absurd (omega arith) }

module _ (parents : List ℕ) (n : ℕ) (inside : Inside parents n) (marks steps : List ℕ) (start : ℕ) (l₀ : start < n) where
  pub climb_starts : Followed parents marks steps n start → Climbing parents marks steps n start start 0
  climb_starts m =
      record {
        walk = walk_starts parents n inside marks start l₀ m.marked;
        long = m.long;
        few = let r : blank marks n ≤ n = count_le (λ x. eqb (get_or marks x 0) 0) n in omega arith;
        here = λ _. omega arith;
        apart = λ x t l e _. m.apart x t l e;
      }

  pub climb_goes : (f count : ℕ) → Climbing parents marks steps n start f count → top_level parents f ≡ false → get_or marks f 0 ≡ 0
      → Climbing parents (set marks f (start + 1)) (set steps f count) n start (get_or parents f 0) (count + 1)
  climb_goes f count w t z =
      let l : f < length marks = let a = w.walk.here in let b = w.walk.long in omega arith in
      let k : f < length steps = let a = w.walk.here in let b = w.long in omega arith in
      record {
        walk = walk_goes parents n inside marks start l₀ f w.walk t z;
        long = simp length-set w.long;
        few = let r = blank_less marks n f (start + 1) w.walk.here l z (omega arith) in let q = w.few in omega arith;
        here = λ r.
            let m = (moves_up parents n f (w.walk.ahead n r) t).0 in
            let h = w.here r in
            omega arith;
        apart = λ x s h e r.
            ⊎_elim
            (λ a.
            let q : s ≡ start = let b = a.1 in omega arith in
            let same = ap (moves parents n) a.0 in
            let goal = ap (moves parents n) q in
            let b : get_or (set steps f count) x 0 ≡ count = ⊎_elim (λ c. c.1) (λ c. absurd (c.0 a.0)) (at_set steps f count k x) in
            let from = w.here (ap (reaches parents n) (sym q) ∙ r) in
            omega arith)
            (λ a.
            let b : get_or (set steps f count) x 0 ≡ get_or steps x 0 = ⊎_elim (λ c. absurd (a.0 c.0)) (λ c. c.1) (at_set steps f count k x) in
            let old = w.apart x s h (sym a.1 ∙ e) r in
            omega arith)
            (at_set marks f (start + 1) l x);
      }

  module _ (f count : ℕ) (w : Climbing parents marks steps n start f count) (depths : List ℕ) (known : Known parents depths n start) where
    -- the chain ends: by what is known of f
    pub climb_ends : Ends parents f → (m : ℕ) → m ≡ moves parents n f + count
        → (Some m ≡ climbed parents n start) × (reaches parents n start ≡ true → Followed parents marks steps n (start + 1))
    unfolding climbed
    climb_ends e m is =
        let r = walk_ends parents n inside marks start l₀ f w.walk e in (
          rw (r.0, is ∙ w.here r.0),
          λ _.
              record {
                marked = r.1;
                long = w.long;
                apart = λ x t l i.
                    w.apart x t l i
                    (elim (ℕ_discrete t start) [
                      | yes s ↦ ap (reaches parents n) s ∙ r.0
                      | no s ↦ (lowest parents n start).ends known.end t (let b = w.walk.low x l in omega arith)
                    ]);
              },
        )

    -- at a self-parented field
    pub climb_top : top_level parents f ≡ true
        → (Some count ≡ climbed parents n start) × (reaches parents n start ≡ true → Followed parents marks steps n (start + 1))
    climb_top t = climb_ends (zero, meets_here (top_level parents) parents zero f t) count (let z = moves_top parents n f t in omega arith)

    -- where an earlier walk has been
    module _ (marked : get_or marks f 0 ≡ 0 → ⊥) (other : get_or marks f 0 ≡ start + 1 → ⊥) where
      pub met_below : get_or marks f 0 - 1 < start
      met_below = let b = w.walk.low f w.walk.here in omega arith

      pub met_depth : get_or depths (get_or marks f 0 - 1) 0 ≡ moves parents n f + get_or steps f 0
      met_depth =
          known.depth _ met_below
          ∙ sym (w.apart f _ w.walk.here (omega arith) ((lowest parents n start).ends known.end _ met_below))

      pub climb_met : (m : ℕ) → m ≡ count + (get_or depths (get_or marks f 0 - 1) 0 - get_or steps f 0)
          → (Some m ≡ climbed parents n start) × (reaches parents n start ≡ true → Followed parents marks steps n (start + 1))
      climb_met m is = climb_ends (w.walk.old f w.walk.here marked other) m (let d = met_depth in omega arith)

    -- where this walk has been
    pub climb_never : get_or marks f 0 ≡ start + 1
        → (None ≡ climbed parents n start) × (reaches parents n start ≡ true → Followed parents marks steps n (start + 1))
    unfolding climbed
    climb_never e = let r = walk_loops parents n inside marks start l₀ f w.walk e in (rw r, λ s. clash s r)
