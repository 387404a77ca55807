-- `header_stores::row::write_head` meets its contract. Assumes nothing.
use Rattle.writing.specs.Header.{field_head_piece}
use Rattle.stores.proofs.Storing.{stored_none, stored_then}
use Rattle.header_stores.proofs.row.write_head.Goals as goal

pub returns : goal.returns
unfolding field_head_piece
returns c = λ n. stored_then c.store_4-second.ensures (stored_then c.store_4-third.ensures (stored_then c.store_4-fourth.ensures (stored_then c.store_2-fifth.ensures (stored_then c.store_2-sixth.ensures (stored_then c.write_repetition.ensures (stored_none _ _))))))
