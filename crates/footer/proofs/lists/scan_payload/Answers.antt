use Rattle.wire.proofs.Laws.{handed_on}
use Rattle.wire.specs.Answers.{as_step, place_step}
use Rattle.footer.proofs.PayloadLaws.{no_opening, no_clusters, no_metadata, spare_bytes, scanned}
use mathlib.Core.Path.{sym, ap, ◌∙◌}
use borrow.Author.Rules.{rules}
use Rattle.footer.proofs.lists.scan_payload.Goals as goal

pub returns : goal.returns
returns c = scanned c.args.checksum c.args.file c.args.carried c.args.strict c.args.s.now (sym c.opening_at.ensures ∙ ap place_step c.in_ok-clusters_at.was) (sym (ap as_step c.in_ok-clusters.was) ∙ c.scan_cluster_list.ensures) (sym (ap as_step c.in_ok-metadata.was) ∙ c.scan_link_list.ensures) (sym (ap place_step c.in_ok-close_frame.was) ∙ c.close_frame.ensures)

pub returns-in_err-close_frame : goal.returns-in_err-close_frame
returns-in_err-close_frame c = rw (handed_on c.from_residual-in_err-close_frame.result _ c.from_residual-in_err-close_frame.ensures.1) (spare_bytes c.args.checksum c.args.file c.args.carried c.args.strict c.args.s.now (sym c.opening_at.ensures ∙ ap place_step c.in_ok-clusters_at.was) (sym (ap as_step c.in_ok-clusters.was) ∙ c.scan_cluster_list.ensures) (sym (ap as_step c.in_ok-metadata.was) ∙ c.scan_link_list.ensures) (sym (ap place_step c.in_err-close_frame.was) ∙ c.close_frame.ensures))

pub returns-in_err-metadata : goal.returns-in_err-metadata
returns-in_err-metadata c = rw (handed_on c.from_residual-in_err-metadata.result _ c.from_residual-in_err-metadata.ensures.1) (no_metadata c.args.checksum c.args.file c.args.carried c.args.strict c.args.s.now (sym c.opening_at.ensures ∙ ap place_step c.in_ok-clusters_at.was) (sym (ap as_step c.in_ok-clusters.was) ∙ c.scan_cluster_list.ensures) (sym (ap as_step c.in_err-metadata.was) ∙ c.scan_link_list.ensures))

pub returns-in_err-clusters : goal.returns-in_err-clusters
returns-in_err-clusters c = rw (handed_on c.from_residual-in_err-clusters.result _ c.from_residual-in_err-clusters.ensures.1) (no_clusters c.args.checksum c.args.file c.args.carried c.args.strict c.args.s.now (sym c.opening_at.ensures ∙ ap place_step c.in_ok-clusters_at.was) (sym (ap as_step c.in_err-clusters.was) ∙ c.scan_cluster_list.ensures))

pub returns-in_err-clusters_at : goal.returns-in_err-clusters_at
returns-in_err-clusters_at c = rw (handed_on c.from_residual.result _ c.from_residual.ensures.1) (no_opening c.args.checksum c.args.file c.args.carried c.args.strict c.args.s.now (sym c.opening_at.ensures ∙ ap place_step c.in_err-clusters_at.was))
