use Rattle.footer_check.proofs.Rows.{Summed}
use Rattle.footer_check.proofs.items.clusters_number.Given as goal

abbrev pub invariant-loop-i : goal.invariant-loop-i
invariant-loop-i l = Summed l.carried l.file l.clusters l.n l.i l.sum
