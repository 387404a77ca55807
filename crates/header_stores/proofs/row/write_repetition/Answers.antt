-- `header_stores::row::write_repetition` meets its contract. Assumes nothing.
use borrow.Author.Tests.{eq-eqb, ne_eqb}
use Rattle.writing.specs.Header.{repetition_piece}
use Rattle.stores.proofs.Storing.{stored_none}
use Rattle.header_stores.proofs.row.write_repetition.Goals as goal

pub returns-then-flags-eq1 : goal.returns-then-flags-eq1
unfolding repetition_piece
returns-then-flags-eq1 c = rw (eq-eqb _ _ c.if-flags-eq1.true) c.store_8.ensures

pub returns : goal.returns
unfolding repetition_piece
returns c = rw (ne_eqb _ _ c.if-flags-eq1.false) (stored_none _ _)
