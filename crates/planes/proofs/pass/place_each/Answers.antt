use mathlib.Core.Path.{◌≡◌}
use native.Mathlib.Omega.{arith}
use lib.ListN.{length}
use lib.Seq.{take-length}
use Rattle.planes.proofs.Joins.{joined_start, join_next}
use Rattle.planes.proofs.pass.place_each.Goals as goal

pub loop-i-init : goal.loop-i-init
loop-i-init c = let a = c.args in joined_start a.unit a.keep a.plane.now a.out.now

pub loop-i-preserved : goal.loop-i-preserved
loop-i-preserved c = let a = c.args in
    let l = c.loop-i in
    rw c.join_at.ensures (join_next a.unit a.keep a.plane.now a.out.now c.requires.1
    l.i c.wide.result l.out l.invariant (omega arith) c.wide.ensures.0)

pub returns : goal.returns
returns c = let l = c.loop-i in
    let e : length c.args.plane.now ≡ l.i = omega arith in
    rw (← e, take-length) at l.invariant.0
