use Prim.Native.Nat.{◌/◌}
use lib.ListN.{length}
use Rattle.rows.specs.Tables.{column_row}
use Rattle.rows.proofs.FirstRows.{rows_length}
use Rattle.stores.proofs.FramedLaws.{listed_lem}
use borrow.Author.Rules.{rules}
use Rattle.header_stores.proofs.list.write_column_list.Goals as goal

pub returns : goal.returns
returns c = λ fields. let table = c.args.columns.now in
    rw (rows_length column_row table (length table / 4)) (listed_lem _ c.store_list.ensures (λ place before stop after k. search rules))
