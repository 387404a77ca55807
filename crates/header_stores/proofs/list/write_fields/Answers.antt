use Rattle.rows.specs.Tables.{field_row}
use Rattle.writing.specs.Header.{field_item}
use Rattle.stores.proofs.FramedLaws.{rows_stored}
use borrow.Author.Rules.{rules}
use Rattle.header_stores.proofs.list.write_fields.Goals as goal

pub returns : goal.returns
returns c = λ m. rows_stored (field_item c.args.strings.now m) field_row c.args.fields.now (λ i place before stop after less k. search rules) c.store_rows.ensures
