use Prim.Native.Nat.{◌/◌}
use lib.ListN.{length}
use Rattle.rows.specs.Tables.{cluster_row}
use Rattle.rows.proofs.FirstRows.{rows_length}
use Rattle.stores.proofs.FramedLaws.{listed_lem}
use borrow.Author.Rules.{rules}
use Rattle.footer_writer.proofs.lists.write_cluster_list.Goals as goal

pub returns : goal.returns
returns c = λ file. let table = c.args.clusters.now in
    rw (rows_length cluster_row table (length table / 5)) (listed_lem _ c.store_list.ensures (λ place before stop after k. search rules))
