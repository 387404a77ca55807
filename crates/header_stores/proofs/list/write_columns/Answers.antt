use Rattle.rows.specs.Tables.{column_row}
use Rattle.writing.specs.Header.{column_item}
use Rattle.stores.proofs.FramedLaws.{rows_stored}
use borrow.Author.Rules.{rules}
use Rattle.header_stores.proofs.list.write_columns.Goals as goal

pub returns : goal.returns
returns c = λ fields. rows_stored (column_item fields) column_row c.args.columns.now (λ i place before stop after less k. search rules) c.store_rows.ensures
