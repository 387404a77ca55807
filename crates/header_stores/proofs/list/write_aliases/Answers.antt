use Rattle.rows.specs.Tables.{alias_row}
use Rattle.writing.specs.Header.{alias_item}
use Rattle.stores.proofs.FramedLaws.{rows_stored}
use borrow.Author.Rules.{rules}
use Rattle.header_stores.proofs.list.write_aliases.Goals as goal

pub returns : goal.returns
returns c = λ flags columns. rows_stored (alias_item flags columns) alias_row c.args.aliases.now (λ i place before stop after less k. search rules) c.store_rows.ensures
