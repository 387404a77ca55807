use Rattle.writing.specs.Rows.{footer_rows}
use Rattle.writing.specs.Footer.{footer_piece}
use Rattle.stores.proofs.Sealing.{sealed_over}
use Rattle.footer_writer.proofs.Bytes.{front_stored}
use Rattle.footer_writer.proofs.write.write_envelope.Goals as goal

pub returns : goal.returns
unfolding footer_piece
returns c = let a = c.args in
    λ file. sealed_over _ _ _ _ _ (front_stored a.checksum file (footer_rows a.clusters.now a.metadata.now) c.carries_checksums-carried.ensures c.version.ensures c.store_2-minimum.ensures c.store_2-payload.ensures (c.write_payload-end.ensures file)) c.store_checksum.ensures
