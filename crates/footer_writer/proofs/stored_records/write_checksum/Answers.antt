use Rattle.writing.specs.Footer.{checksum_piece}
use Rattle.stores.proofs.Storing.{stored_none}
use Rattle.footer_writer.proofs.stored_records.write_checksum.Goals as goal

pub returns-then-carried : goal.returns-then-carried
unfolding checksum_piece
returns-then-carried c = rw c.if-carried.true c.store_4.ensures

pub returns : goal.returns
unfolding checksum_piece
returns c = rw c.if-carried.false (stored_none _ _)
