use mathlib.Core.Path.{◌≡◌, ◌∙◌}
use Prim.Native.Nat.{min}
use native.Mathlib.Omega.{arith}
use Rattle.checksum.proofs.wide.many.Goals as goal

pub loop-left-preserved : goal.loop-left-preserved
loop-left-preserved c = (omega arith, c.next-s.ensures ∙ c.loop-left.invariant.1)

pub returns : goal.returns
returns c = let e : min c.args.words 5 ≡ c.loop-left.left = omega arith in
    rw e c.loop-left.invariant.1
