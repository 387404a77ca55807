use borrow.Author.Rules.{rules}
use Rattle.cluster_rows.proofs.link_row.Goals as goal

pub returns : goal.returns
returns c = rw (← c.word.ensures, ← c.word-2.ensures)
