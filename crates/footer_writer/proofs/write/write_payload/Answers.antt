use Rattle.writing.specs.Footer.{footer_payload_piece}
use Rattle.stores.proofs.Storing.{stored_none, stored_then, stored_as_lem}
use Rattle.footer_writer.proofs.Bytes.{empty_bytes}
use Rattle.footer_writer.proofs.write.write_payload.Goals as goal

pub returns : goal.returns
unfolding footer_payload_piece
returns c = λ file. stored_then c.store_8-named.ensures (stored_then c.store_4-extensions.ensures (stored_then (stored_as_lem empty_bytes c.store_list_head-groups.ensures) (stored_then (stored_as_lem empty_bytes c.store_list_head-cluster_list.ensures) (stored_then (c.write_cluster_list-link_list.ensures file) (stored_then (c.write_link_list.ensures file) (stored_none _ _))))))
