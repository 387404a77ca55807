-- `figure_table::cells::store_type` meets its contract. Assumes nothing.
use Rattle.figure_table.proofs.RowLaws.{type_stored, type_long}
use Rattle.figure_table.proofs.cells.store_type.Goals as goal

pub returns : goal.returns
returns c = record { stores = type_stored c.args.column_type c.hex-len.ensures.len c.hex-len.ensures.digits c.store_bytes-marked.ensures c.store_bytes.ensures; few = type_long _ }
