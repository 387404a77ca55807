use Rattle.stores.proofs.Storing.{stored_then}
use Rattle.stores.proofs.Sealing.{sealed_over}
use Rattle.page_list_writer.proofs.write.write_envelope.Goals as goal

pub returns : goal.returns
returns c = λ order file bits. sealed_over _ _ _ _ _ (stored_then c.store_2-minimum.ensures (stored_then c.store_2-payload.ensures (c.write_payload-end.ensures order file bits))) c.store_checksum.ensures
