-- `planes::place_plane` meets its contract. Assumes nothing.
use mathlib.Core.Path.{◌≡◌, sym, ◌∙◌}
use mathlib.Core.List.{List}
use Prim.Native.Nat.{ℕ, ◌<◌}
use native.Mathlib.Omega.{arith}
use lib.ListN.{length, take}
use lib.Seq.{length-take-le}
use Rattle.planes.specs.Plane.{with_byte}
use Rattle.planes.proofs.Joined.{joined_none, joined_cut}
use Rattle.planes.proofs.Words.{with_byte_missing}
use Rattle.planes.proofs.place_plane.Goals as goal

-- a plane that is cut to as many bytes as there are words
shorter : (plane out : List ℕ) → length out < length plane → length (take (length out) plane) ≡ length out
shorter plane out h = length-take-le (length out) plane (omega arith)

pub returns-then-p-ge8 : goal.returns-then-p-ge8
returns-then-p-ge8 c = let a = c.args in
    sym (joined_none (with_byte 8 a.p) a.plane.now a.out.now (λ b x. with_byte_missing 8 a.p b x (omega (arith, c.if-p-ge8.true))))

pub slice_bounds-place_all-end : goal.slice_bounds-place_all-end
slice_bounds-place_all-end c = let a = c.args in
    sym (shorter a.plane.now a.out.now c.if-plane-n.false)

pub place_all-requires-2 : goal.place_all-requires-2
place_all-requires-2 c = let a = c.args in
    (omega (arith, c.if-p-ge8.false), omega (arith, shorter a.plane.now a.out.now c.if-plane-n.false))

pub returns : goal.returns
returns c = c.place_all-2.ensures ∙ joined_cut (with_byte 8 c.args.p) c.args.plane.now c.args.out.now
