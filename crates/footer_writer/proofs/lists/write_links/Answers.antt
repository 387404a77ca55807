use Rattle.rows.specs.Tables.{link_row}
use Rattle.writing.specs.Footer.{link_item}
use Rattle.stores.proofs.FramedLaws.{rows_stored}
use borrow.Author.Rules.{rules}
use Rattle.footer_writer.proofs.lists.write_links.Goals as goal

pub returns : goal.returns
returns c = λ file. rows_stored (link_item file) link_row c.args.metadata.now (λ i place before stop after less k. search rules) c.store_rows.ensures
