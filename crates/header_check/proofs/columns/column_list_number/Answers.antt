use Prim.Native.Nat.{◌/◌}
use lib.ListN.{length}
use Rattle.rows.specs.Tables.{column_row}
use Rattle.rows.proofs.FirstRows.{rows_length}
use Rattle.header_check.proofs.columns.column_list_number.Goals as goal

pub returns : goal.returns
returns c = let columns = c.args.columns.now in
    rw (rows_length column_row columns (length columns / 4), ← c.at_most-count.ensures, ← c.columns_number.ensures) c.first.ensures
