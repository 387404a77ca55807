use borrow.Author.Tests.{eq-eqb, ne_eqb}
use Rattle.writing.specs.Header.{repetition_piece}
use Rattle.field_check.proofs.long.numbers_long.Goals as goal

pub returns-then-flags-eq1 : goal.returns-then-flags-eq1
unfolding repetition_piece
returns-then-flags-eq1 c = rw (eq-eqb _ _ c.if-flags-eq1.true)

pub returns : goal.returns
unfolding repetition_piece
returns c = rw (ne_eqb _ _ c.if-flags-eq1.false)
