-- `planes::join::join_at` meets its contract: by definition. Assumes nothing.
use Prim.Native.Nat.{◌≤◌}
use native.Mathlib.Nat.{mul-le-mul_right}
use native.Mathlib.Omega.{arith}
use Rattle.planes.proofs.join.join_at.Goals as goal

pub overflow_mul-out : goal.overflow_mul-out
overflow_mul-out c = let p = c.requires in
    let h : c.args.b ≤ 255 = omega arith in
    omega (arith, mul-le-mul_right c.args.unit h)
