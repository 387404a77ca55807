use Prim.Native.Nat.{◌+◌, ◌*◌, ◌-◌, ◌≤◌}
use mathlib.Core.Path.{sym, ap, ◌∙◌}
use native.Mathlib.Omega.{arith}
use borrow.Author.Rules.{rules}
use lib.ListN.{length}
use Rattle.frames.proofs.Loops.{Filled, filled_none, filled_all}
use Rattle.rows.specs.Words.{cluster_width, cluster_words}
use Rattle.clusters.proofs.PlaceLaws.{starts_inside}
use Rattle.footer.proofs.FillLaws.{item, filled_never, filled_next}
use Rattle.footer.proofs.fill.fill_clusters.Given as goal

abbrev pub invariant-loop-i : goal.invariant-loop-i
invariant-loop-i l = Filled (λ _. cluster_words) l.list (item l.carried l.strict l.file) l.count l.s l.initial.at l.i l.at l.initial.table l.table
