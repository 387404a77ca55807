use Rattle.stores.proofs.Storing.{stored_none, stored_then, stored_as_lem}
use Rattle.footer_writer.proofs.Bytes.{cluster_record}
use Rattle.footer_writer.proofs.stored_records.write_cluster.Goals as goal

pub returns : goal.returns
returns c = λ file sum. stored_as_lem (cluster_record c.args.carried file sum c.args.row c.record_size.ensures) (stored_then c.store_4-first.ensures (stored_then c.store_8-second.ensures (stored_then c.store_8-third.ensures (stored_then (c.write_link-fourth.ensures file) (stored_then c.write_checksum.ensures (stored_none _ _))))))
