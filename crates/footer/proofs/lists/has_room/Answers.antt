use borrow.Author.Tests.{le-leb, lt-leb}
use Prim.Native.Nat.{◌/◌}
use native.Mathlib.Omega.{arith}
use Rattle.rows.specs.Words.{cluster_width}
use Rattle.footer.proofs.lists.has_room.Goals as goal

pub returns-then-scan-clusters : goal.returns-then-scan-clusters
returns-then-scan-clusters c = let a = c.args in simp (le-leb a.scan.clusters (a.clusters / cluster_width) (omega arith))

pub returns : goal.returns
returns c = let a = c.args in simp (lt-leb a.scan.clusters (a.clusters / cluster_width) (omega arith))
