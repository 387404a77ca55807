use native.Mathlib.Omega.{arith}
use Rattle.wire.proofs.Laws.{number_read, number_missing}
use borrow.Author.Rules.{rules}
use Rattle.wire.proofs.number.number_8.Goals as goal

pub overflow_add-result : goal.overflow_add-result
overflow_add-result c = omega (arith, c.has_room.ensures.fits c.if-has_room.true)

pub returns-then-has_room : goal.returns-then-has_room
returns-then-has_room c = number_read 8 c.has_room.ensures c.if-has_room.true c.little_8.ensures

pub returns-else-has_room : goal.returns-else-has_room
returns-else-has_room c = number_missing 8 c.has_room.ensures c.if-has_room.false c.fault_at.ensures
