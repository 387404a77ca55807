use Rattle.rows.specs.Tables.{column_row}
use Rattle.writing.specs.Header.{column_item}
use Rattle.verdicts.proofs.FirstRefused.{refused_first}
use borrow.Author.Rules.{rules}
use Rattle.header_check.proofs.columns.columns_number.Goals as goal

pub returns : goal.returns
returns c = refused_first (column_item c.args.fields) column_row c.args.columns.now c.first_of_rows.ensures (λ i r less gives. search rules)
