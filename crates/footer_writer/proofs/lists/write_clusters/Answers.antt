use Rattle.rows.specs.Tables.{cluster_row}
use Rattle.writing.specs.Footer.{cluster_item}
use Rattle.stores.proofs.FramedLaws.{rows_stored}
use borrow.Author.Rules.{rules}
use Rattle.footer_writer.proofs.lists.write_clusters.Goals as goal

pub returns : goal.returns
returns c = λ file. rows_stored (cluster_item c.args.carried file) cluster_row c.args.clusters.now (λ i place before stop after less k. search rules) c.store_rows.ensures
