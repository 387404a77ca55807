use Rattle.clusters.specs.Clusters.{list_checksum}
use borrow.Author.Rules.{rules}
use Rattle.clusters.proofs.cluster.list_checksum_at.Goals as goal

pub returns-then-carried : goal.returns-then-carried
unfolding list_checksum
returns-then-carried c = simp (c.if-carried.true, c.number_4.ensures)

pub returns : goal.returns
unfolding list_checksum
returns c = simp c.if-carried.false
