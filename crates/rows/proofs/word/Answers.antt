use Rattle.rows.proofs.RowLaws.{row_word, row_none, row_narrow}
use Rattle.rows.proofs.word.Goals as goal

pub returns-then-i-table : goal.returns-then-i-table
returns-then-i-table c = let a = c.args in rw (row_word a.width a.table.now a.row a.j c.if-j-width.true c.if-i-table.true)

pub returns-then-j-width : goal.returns-then-j-width
returns-then-j-width c = let a = c.args in rw (row_none a.width a.table.now a.row c.if-i-table.false)

pub returns : goal.returns
returns c = let a = c.args in rw (row_narrow a.width a.table.now a.row a.j c.if-j-width.false)
