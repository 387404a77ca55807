use Rattle.wire.proofs.Laws.{passed_on}
use Rattle.clusters.specs.Clusters.{cluster}
use borrow.Author.Rules.{rules}
use Rattle.clusters.proofs.cluster.cluster_at.Goals as goal

pub returns : goal.returns
unfolding cluster
returns c = simp (← c.first_entry_at.ensures, c.in_ok-first_entry.was, ← c.entries_at.ensures, c.in_ok-entries.was, ← c.link_at.ensures, c.in_ok-page_list.was, ← c.list_checksum_at.ensures, c.in_ok-checksum.was)

pub returns-in_err-checksum : goal.returns-in_err-checksum
unfolding cluster
returns-in_err-checksum c = simp (passed_on c.from_residual-in_err-checksum.result _ c.from_residual-in_err-checksum.ensures.1, ← c.first_entry_at.ensures, c.in_ok-first_entry.was, ← c.entries_at.ensures, c.in_ok-entries.was, ← c.link_at.ensures, c.in_ok-page_list.was, ← c.list_checksum_at.ensures, c.in_err-checksum.was)

pub returns-in_err-page_list : goal.returns-in_err-page_list
unfolding cluster
returns-in_err-page_list c = simp (passed_on c.from_residual-in_err-page_list.result _ c.from_residual-in_err-page_list.ensures.1, ← c.first_entry_at.ensures, c.in_ok-first_entry.was, ← c.entries_at.ensures, c.in_ok-entries.was, ← c.link_at.ensures, c.in_err-page_list.was)

pub returns-in_err-entries : goal.returns-in_err-entries
unfolding cluster
returns-in_err-entries c = simp (passed_on c.from_residual-in_err-entries.result _ c.from_residual-in_err-entries.ensures.1, ← c.first_entry_at.ensures, c.in_ok-first_entry.was, ← c.entries_at.ensures, c.in_err-entries.was)

pub returns-in_err-first_entry : goal.returns-in_err-first_entry
unfolding cluster
returns-in_err-first_entry c = simp (passed_on c.from_residual.result _ c.from_residual.ensures.1, ← c.first_entry_at.ensures, c.in_err-first_entry.was)
