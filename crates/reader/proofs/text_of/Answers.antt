-- `reader::text_of` meets its contract: the test for room says which case of `text_of` holds.
use Prim.Native.Nat.{◌+◌, ◌-◌}
use mathlib.Core.Path.{◌≡◌}
use native.Mathlib.Omega.{arith}
use Rattle.reader.specs.Text.{text_of}
use Rattle.reader.proofs.text_of.Goals as goal

pub overflow_add-result : goal.overflow_add-result
overflow_add-result c = omega (arith, c.has_room.ensures.fits c.if-has_room.true)

pub slice_bounds-result-end : goal.slice_bounds-result-end
slice_bounds-result-end c = omega (arith, c.has_room.ensures.fits c.if-has_room.true)

pub returns-then-has_room : goal.returns-then-has_room
unfolding text_of
returns-then-has_room c = let place = c.args.place in
    let len = c.args.len in
    let e : place + len - place ≡ len = omega arith in
    simp (e, ← c.has_room.ensures.is, c.if-has_room.true)

pub returns : goal.returns
unfolding text_of
returns c = simp (← c.has_room.ensures.is, c.if-has_room.false)
