use borrow.Author.Tests.{le-leb, lt-leb}
use Rattle.header_reader.proofs.fill.has_room.Goals as goal

pub returns-then-lists-columns : goal.returns-then-lists-columns
returns-then-lists-columns c = simp (le-leb _ _ c.if-lists-fields.true, le-leb _ _ c.if-lists-columns.true)

pub returns-then-lists-fields : goal.returns-then-lists-fields
returns-then-lists-fields c = simp (le-leb _ _ c.if-lists-fields.true, lt-leb _ _ c.if-lists-columns.false)

pub returns : goal.returns
returns c = simp (lt-leb _ _ c.if-lists-fields.false)
