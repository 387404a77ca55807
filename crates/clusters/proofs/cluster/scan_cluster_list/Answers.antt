use Rattle.wire.proofs.Laws.{passed_on}
use Rattle.frames.specs.Frames.{list_of}
use Rattle.frames.proofs.Laws.{counted_closed}
use borrow.Author.Rules.{rules}
use Rattle.clusters.proofs.cluster.scan_cluster_list.Goals as goal

pub returns : goal.returns
unfolding list_of
returns c = simp (← c.list_head_at_most.ensures, c.in_ok-head.was, counted_closed, ← c.up_to.ensures, ← c.scan_clusters-scanned.ensures, c.close_list.ensures)

pub returns-in_err-head : goal.returns-in_err-head
unfolding list_of
returns-in_err-head c = simp (passed_on c.from_residual.result _ c.from_residual.ensures.1, ← c.list_head_at_most.ensures, c.in_err-head.was)
