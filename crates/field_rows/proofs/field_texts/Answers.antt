use borrow.Author.Rules.{rules}
use Rattle.field_rows.proofs.field_texts.Goals as goal

pub returns : goal.returns
returns c = rw (← c.text_at.ensures, ← c.text_at-2.ensures, ← c.text_at-3.ensures, ← c.text_at-4.ensures)
