-- `header_writer::write::write_envelope` meets its contract. Assumes nothing.
use Rattle.writing.specs.Header.{header_piece}
use Rattle.stores.proofs.Storing.{stored_then}
use Rattle.stores.proofs.Sealing.{sealed_over}
use borrow.Author.Rules.{rules}
use Rattle.header_writer.proofs.write.write_envelope.Goals as goal

pub returns : goal.returns
unfolding header_piece
returns c = λ room. sealed_over _ _ _ _ _ (stored_then c.store_2-minimum.ensures (stored_then c.store_2-payload.ensures c.write_payload-end.ensures)) c.store_checksum.ensures room
