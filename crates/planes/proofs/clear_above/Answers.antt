use mathlib.Core.Path.{refl, sym, ap, ◌∙◌}
use mathlib.Core.List.{List, ◌++◌, append-nil}
use Prim.Native.Nat.{ℕ, ◌-◌, ◌≤◌}
use native.Mathlib.Nat.{le_of_eq}
use native.Mathlib.Omega.{arith}
use lib.ListN.{length, replicate, length-replicate, get_or-replicate, drop_of_length-le}
use borrow.Author.Tests.{lt-ltb, le-ltb}
use Rattle.planes.specs.Plane.{cleared}
use Rattle.planes.proofs.Filling.{Filled, fill_turn, fill_done}
use Rattle.planes.proofs.clear_above.Goals as goal

pub returns-then-k-ge8 : goal.returns-then-k-ge8
unfolding cleared
returns-then-k-ge8 c = rw (le-ltb c.args.k 8 (omega arith))

pub loop-i-init : goal.loop-i-init
loop-i-init c = (omega arith, (refl, refl))

pub loop-i-preserved : goal.loop-i-preserved
loop-i-preserved c = let l = c.loop-i in
    let d : List ℕ = c.args.out.now in
    let n = length-replicate {A = ℕ} (length d) 0 in
    (omega arith, fill_turn (replicate (length d) 0) d l.out l.i 0 l.invariant.1 (omega arith) (omega arith) (sym (get_or-replicate (length d) l.i 0 0 (omega arith))))

pub shape_of-out : goal.shape_of-out
shape_of-out c = c.loop-i.invariant.1.1

pub returns : goal.returns
unfolding cleared
returns c = let l = c.loop-i in
    let d : List ℕ = c.args.out.now in
    let n = length-replicate {A = ℕ} (length d) 0 in
    rw (lt-ltb c.args.k 8 (omega (arith, c.if-k-ge8.false))) (l.invariant.1.0 ∙ fill_done (replicate (length d) 0) d l.i (omega arith)
    ∙ ap (λ (t : List ℕ). replicate (length d) 0 ++ t) (drop_of_length-le d (le_of_eq (sym n))) ∙ append-nil (replicate (length d) 0))
