-- `stores::store_checksum` meets its contract. Assumes nothing.
use Prim.Native.Nat.{ℕ}
use mathlib.Core.Path.{sym, ap, ◌∙◌}
use native.Mathlib.Omega.{arith}
use lib.Seq.{length-take-le, sets}
use Rattle.tree.specs.Bytes.{spelled}
use Rattle.tree.proofs.Place.{length_spelled}
use Rattle.stores.proofs.store_checksum.Goals as goal

pub slice_bounds-crc32-end-then-end-out : goal.slice_bounds-crc32-end-then-end-out
slice_bounds-crc32-end-then-end-out c = sym (length-take-le c.args.end c.args.out.now (omega arith))

pub returns-then-end-out : goal.returns-then-end-out
returns-then-end-out c = λ room. (c.store_number.ensures.done (omega (arith, length_spelled 4 c.crc32-sum.result))).0 ∙ ap (λ (k : ℕ). sets c.args.out.now c.args.end (spelled 4 k)) c.crc32-sum.ensures

pub returns-else-end-out : goal.returns-else-end-out
returns-else-end-out c = λ room. absurd (omega arith)
