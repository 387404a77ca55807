use borrow.Author.Rules.{rules}
use Rattle.column_rows.proofs.column_row.Goals as goal

pub returns : goal.returns
returns c = rw (← c.word.ensures, ← c.word-2.ensures, ← c.word-3.ensures, ← c.word-4.ensures)
