use Prim.Native.Nat.{◌-◌}
use Rattle.frames.proofs.Loops.{reached_refused, reached_counted}
use Rattle.clusters.proofs.ClusterLaws.{Summed, summed_none, summed_rule, summed_more, record_fits}
use mathlib.Core.Path.{sym, ap, ◌∙◌}
use native.Mathlib.Omega.{arith}
use borrow.Author.Rules.{rules}
use Rattle.clusters.proofs.cluster.scan_clusters.Given as goal

abbrev pub invariant-loop-i : goal.invariant-loop-i
invariant-loop-i l = Summed l.carried l.strict l.file l.list l.count l.s l.initial.at l.i l.at l.sum
