use mathlib.Core.Path.{◌≡◌, refl}
use Prim.Native.Nat.{suc, ◌+◌, ◌-◌}
use native.Mathlib.Omega.{arith}
use Rattle.crc_register.specs.Register.{bits, byte}
use Rattle.crc_register.proofs.byte.Goals as goal

pub loop-init : goal.loop-init
unfolding byte
loop-init c = refl

pub loop-preserved : goal.loop-preserved
unfolding bits
loop-preserved c = let l = c.loop in
    let e : 8 - l.counter ≡ suc (8 - (l.counter + 1)) = omega arith in
    rw c.shifted-x.ensures (rw e at l.invariant)

pub returns : goal.returns
unfolding bits
returns c = let l = c.loop in
    let z : 8 - l.counter ≡ 0 = omega arith in
    rw z at l.invariant
