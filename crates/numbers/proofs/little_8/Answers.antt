use native.Mathlib.Omega.{arith}
use mathlib.Core.Path.{sym, ◌∙◌}
use Rattle.numbers.proofs.Numbers.{little_read, little_missing}
use borrow.Author.Rules.{rules}
use Rattle.numbers.proofs.little_8.Goals as goal

pub eight-requires : goal.eight-requires
eight-requires c = omega (arith, c.has_room.ensures.fits c.if-has_room.true)

pub returns-then-has_room : goal.returns-then-has_room
returns-then-has_room c = little_read 8 (sym c.has_room.ensures.is ∙ c.if-has_room.true) c.eight.ensures

pub returns : goal.returns
returns c = little_missing 8 (sym c.has_room.ensures.is ∙ c.if-has_room.false)
