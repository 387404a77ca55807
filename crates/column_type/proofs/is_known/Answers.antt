-- `column_type::is_known` meets its contract. Assumes nothing.
use borrow.Author.Tests.{le-leb, lt-leb}
use Rattle.column_type.specs.Types.{known}
use Rattle.column_type.proofs.is_known.Goals as goal

pub returns-then-column_type-ge1 : goal.returns-then-column_type-ge1
unfolding known
returns-then-column_type-ge1 c = simp (le-leb _ _ c.if-column_type-ge1.true)

pub returns-else-column_type-ge1 : goal.returns-else-column_type-ge1
unfolding known
returns-else-column_type-ge1 c = simp (lt-leb _ _ c.if-column_type-ge1.false)
