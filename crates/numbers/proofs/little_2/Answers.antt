use native.Mathlib.Omega.{arith}
use mathlib.Core.Path.{sym, ◌∙◌}
use Rattle.numbers.proofs.Numbers.{little_read, little_missing}
use borrow.Author.Rules.{rules}
use Rattle.numbers.proofs.little_2.Goals as goal

pub two-requires : goal.two-requires
two-requires c = omega (arith, c.has_room.ensures.fits c.if-has_room.true)

pub returns-then-has_room : goal.returns-then-has_room
returns-then-has_room c = (little_read 2 (sym c.has_room.ensures.is ∙ c.if-has_room.true) c.two.ensures.0, omega arith)

pub returns : goal.returns
returns c = (little_missing 2 (sym c.has_room.ensures.is ∙ c.if-has_room.false), omega arith)
