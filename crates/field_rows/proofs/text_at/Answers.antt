use borrow.Author.Rules.{rules}
use Rattle.field_rows.proofs.text_at.Goals as goal

pub returns : goal.returns
returns c = rw (← c.word.ensures, ← c.word-2.ensures)
