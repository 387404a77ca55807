use mathlib.Core.Path.{sym, ◌∙◌}
use native.Mathlib.Omega.{arith}
use Rattle.coding.proofs.PutLoop.{left_all, left_next, left_none}
use Rattle.tree.proofs.Place.{length_spelled}
use Rattle.stores.proofs.Storing.{puts_sets, stored_all, stored_nothing}
use Rattle.stores.proofs.store_number.Goals as goal

pub returns-then-out-k : goal.returns-then-out-k
returns-then-out-k c = let a = c.args in stored_nothing (omega (arith, length_spelled a.k a.x))

pub returns-then-out-k-2 : goal.returns-then-out-k-2
returns-then-out-k-2 c = let a = c.args in stored_nothing (omega (arith, length_spelled a.k a.x))

pub loop-j-init : goal.loop-j-init
loop-j-init c = let a = c.args in left_all a.k a.x a.at a.out.now

pub bounds-out-at : goal.bounds-out-at
bounds-out-at c = omega (arith, c.loop-j.invariant.size)

pub loop-j-preserved : goal.loop-j-preserved
loop-j-preserved c = let a = c.args in
    let l = c.loop-j in
    left_next a.k a.x a.at a.out.now l.out l.rest l.j l.invariant c.loop-j-test.true

pub shape_of-out : goal.shape_of-out
shape_of-out c = c.loop-j.invariant.size

pub returns : goal.returns
returns c = let a = c.args in
    let l = c.loop-j in
    stored_all (left_none a.k a.x a.at a.out.now l.out l.rest l.j l.invariant (omega arith) ∙ puts_sets a.k a.x a.at a.out.now) (sym (length_spelled a.k a.x))
