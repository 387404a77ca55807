-- `header_stores::row::write_texts` meets its contract. Assumes nothing.
use Rattle.writing.specs.Header.{field_texts_piece}
use Rattle.stores.proofs.Storing.{stored_none, stored_then}
use Rattle.header_stores.proofs.row.write_texts.Goals as goal

pub returns : goal.returns
unfolding field_texts_piece
returns c = stored_then c.write_text-second.ensures (stored_then c.write_text-third.ensures (stored_then c.write_text-fourth.ensures (stored_then c.write_text.ensures (stored_none _ _))))
