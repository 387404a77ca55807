-- `header_stores::row::write_column` meets its contract. Assumes nothing.
use Rattle.writing.specs.Header.{column_piece}
use Rattle.stores.proofs.Storing.{stored_none, stored_then, stored_sized}
use Rattle.header_stores.proofs.Sizes.{column_size}
use Rattle.header_stores.proofs.row.write_column.Goals as goal

pub returns : goal.returns
unfolding column_piece
returns c = λ n. stored_sized 16 _ (column_size n c.args.column) c.store_4-first.ensures (stored_then c.store_2-second.ensures (stored_then c.store_2-third.ensures (stored_then c.store_4-fourth.ensures (stored_then c.store_4.ensures (stored_none _ _)))))
