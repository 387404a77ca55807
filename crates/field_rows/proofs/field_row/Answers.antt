use borrow.Author.Rules.{rules}
use Rattle.field_rows.proofs.field_row.Goals as goal

pub returns : goal.returns
returns c = rw (← c.field_head.ensures, ← c.field_texts.ensures)
