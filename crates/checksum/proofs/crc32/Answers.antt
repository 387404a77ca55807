use mathlib.Core.Path.{◌≡◌, ap}
use Prim.Native.Nat.{ℕ, ◌-◌, ◌<◌, ◌^◌}
use native.Mathlib.Omega.{arith}
use Rattle.checksum.specs.Crc.{fold, crc32}
use Rattle.checksum.specs.Wide.{ending, finish}
use Rattle.checksum.proofs.Turn.{settled}
use Rattle.checksum.proofs.crc32.Goals.{After-all-end}
use Rattle.checksum.proofs.crc32.Goals as goal

-- the first word of the register at the end is the whole, and fits 32 bits
whole : (c : After-all-end) → (c.all-end.result.a ≡ fold 0xFFFFFFFF c.args.bytes.now) × (c.all-end.result.a < 2 ^ 32)
unfolding finish ending
whole c = let r = c.all-end.result in
    settled c.args.bytes.now (λ j. omega (arith, c.type_inv.bytes j)) _ c.first-c.result r.a r.b r.c r.d r.e (omega arith)
    c.all-end.ensures c.first-c.ensures

pub overflow_cast-result : goal.overflow_cast-result
overflow_cast-result c = omega (arith, (whole (goal.at.overflow_cast-result c).After-all-end).1)

pub overflow_sub-result : goal.overflow_sub-result
overflow_sub-result c = omega (arith, (whole (goal.at.overflow_sub-result c).After-all-end).1)

pub returns : goal.returns
unfolding crc32
returns c = ap (λ (x : ℕ). 0xFFFFFFFF - x) (whole (goal.at.returns c).After-all-end).0
