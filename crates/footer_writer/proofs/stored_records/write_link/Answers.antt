use Rattle.writing.specs.Footer.{link_piece}
use Rattle.stores.proofs.Storing.{stored_none, stored_then}
use Rattle.footer_writer.proofs.stored_records.write_link.Goals as goal

pub returns : goal.returns
unfolding link_piece
returns c = λ file. stored_then c.store_4-second.ensures (stored_then c.store_4-third.ensures (stored_then c.store_8.ensures (stored_none _ _)))
