use mathlib.Core.Path.{◌≡◌}
use Prim.Native.Nat.{◌+◌, ◌*◌, ◌/◌}
use native.Mathlib.Omega.{arith}
use lib.ListN.{length}
use Rattle.planes.proofs.Joins.{joined_start, join_eight_lem}
use Rattle.planes.proofs.pass.place_eights.Goals as goal

pub loop-n-init : goal.loop-n-init
loop-n-init c = let a = c.args in joined_start a.unit a.keep a.plane.now a.out.now

pub join_eight-requires : goal.join_eight-requires
join_eight-requires c = (
  c.requires.0,
  (c.wide-a.ensures.1, c.wide-b.ensures.1, c.wide-c.ensures.1, c.wide-d.ensures.1),
  (c.wide-e.ensures.1, c.wide-f.ensures.1, c.wide-g.ensures.1, c.wide-h.ensures.1),
  omega arith,
)

pub loop-n-preserved : goal.loop-n-preserved
loop-n-preserved c = let l = c.loop-n in
    let a = c.args in
    let e : 8 * (l.n + 1) ≡ 8 * l.n + 8 = omega arith in
    rw (e, c.join_eight.ensures)
    (join_eight_lem a.unit a.keep a.plane.now a.out.now c.requires.1 (8 * l.n)
    c.wide-a.result c.wide-b.result c.wide-c.result c.wide-d.result c.wide-e.result c.wide-f.result c.wide-g.result c.wide-h.result
    l.out l.invariant (omega arith)
    c.wide-a.ensures.0 c.wide-b.ensures.0 c.wide-c.ensures.0 c.wide-d.ensures.0 c.wide-e.ensures.0 c.wide-f.ensures.0 c.wide-g.ensures.0 c.wide-h.ensures.0)

pub returns : goal.returns
returns c = let e : length c.args.plane.now / 8 ≡ c.loop-n.n = omega arith in
    (omega arith, rw (← e) at c.loop-n.invariant.0)
