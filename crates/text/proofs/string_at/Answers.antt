use Prim.Native.Nat.{◌+◌, ◌-◌}
use mathlib.Core.Path.{◌≡◌}
use native.Mathlib.Omega.{arith}
use Rattle.text.specs.Strings.{string_of}
use borrow.Author.Rules.{rules}
use Rattle.text.proofs.string_at.Goals as goal

pub overflow_add-from : goal.overflow_add-from
overflow_add-from c = omega (arith, c.has_room.ensures.fits c.if-has_room.true)

pub overflow_add-to : goal.overflow_add-to
overflow_add-to c = omega (arith, c.has_room-then-has_room.ensures.fits c.if-has_room-2.true)

pub slice_bounds-is_text-end : goal.slice_bounds-is_text-end
slice_bounds-is_text-end c = omega (arith, c.has_room-then-has_room.ensures.fits c.if-has_room-2.true)

pub returns-then-is_text : goal.returns-then-is_text
unfolding string_of
returns-then-is_text c = let from = c.args.at + 4 in
    let len = c.little_4-len.result in
    let e : from + len - from ≡ len = omega arith in
    simp (← c.has_room.ensures.is, c.if-has_room.true, ← (c.little_4-len.ensures.0.there (c.has_room.ensures.fits c.if-has_room.true)), ← c.has_room-then-has_room.ensures.is, c.if-has_room-2.true, ← (rw e at c.is_text.ensures), c.if-is_text.true)

pub returns-then-has_room-2 : goal.returns-then-has_room-2
unfolding string_of
returns-then-has_room-2 c = let from = c.args.at + 4 in
    let len = c.little_4-len.result in
    let e : from + len - from ≡ len = omega arith in
    simp (← c.has_room.ensures.is, c.if-has_room.true, ← (c.little_4-len.ensures.0.there (c.has_room.ensures.fits c.if-has_room.true)), ← c.has_room-then-has_room.ensures.is, c.if-has_room-2.true, ← (rw e at c.is_text.ensures), c.if-is_text.false, c.fault_at.ensures)

pub returns-then-has_room : goal.returns-then-has_room
unfolding string_of
returns-then-has_room c = simp (← c.has_room.ensures.is, c.if-has_room.true, ← (c.little_4-len.ensures.0.there (c.has_room.ensures.fits c.if-has_room.true)), ← c.has_room-then-has_room.ensures.is, c.if-has_room-2.false, c.fault_at-then-has_room.ensures)

pub returns : goal.returns
unfolding string_of
returns c = simp (← c.has_room.ensures.is, c.if-has_room.false, c.fault_at-2.ensures)
