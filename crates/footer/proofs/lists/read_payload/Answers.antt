use Rattle.header.specs.Beside.{in_envelope}
use Rattle.footer.specs.Answers.{Scans}
use Rattle.footer.proofs.ReadLaws.{answered_refused, no_room, clusters_fit_lem, metadata_fit_lem, all_read}
use mathlib.Core.Path.{sym, ap, subst, ◌∙◌}
use borrow.Author.Rules.{rules}
use Rattle.footer.proofs.lists.read_payload.Goals as goal

pub fill_cluster_list-requires : goal.fill_cluster_list-requires
fill_cluster_list-requires c = let k = (subst (Scans _ _ _ _ _) c.in-Ok.is c.scan_payload.ensures) in record { at_value = k.clusters_read; at_in_bounds = clusters_fit_lem k c.args.clusters.now c.args.metadata.now (sym c.has_room.ensures ∙ c.if-has_room.true) }

pub fill_link_list-requires : goal.fill_link_list-requires
fill_link_list-requires c = let k = (subst (Scans _ _ _ _ _) c.in-Ok.is c.scan_payload.ensures) in record { at_value = k.metadata_read; at_in_bounds = metadata_fit_lem k c.args.clusters.now c.args.metadata.now (sym c.has_room.ensures ∙ c.if-has_room.true) }

pub returns-then-has_room : goal.returns-then-has_room
returns-then-has_room c = all_read (subst (Scans _ _ _ _ _) c.in-Ok.is c.scan_payload.ensures) c.args.clusters.now c.args.metadata.now (sym c.has_room.ensures ∙ c.if-has_room.true) c.fill_cluster_list.ensures c.fill_link_list.ensures

pub returns-else-has_room : goal.returns-else-has_room
returns-else-has_room c = no_room (subst (Scans _ _ _ _ _) c.in-Ok.is c.scan_payload.ensures) c.args.clusters.now c.args.metadata.now (sym c.has_room.ensures ∙ c.if-has_room.false)

pub returns-in-Err : goal.returns-in-Err
returns-in-Err c = answered_refused _ _ (ap (in_envelope 2) (subst (Scans _ _ _ _ _) c.in-Err.is c.scan_payload.ensures))
