use Rattle.footer_check.proofs.AlikeLaws.{Alike}
use Rattle.footer_check.proofs.carried.all_as_carried.Given as goal

abbrev pub invariant-loop-i : goal.invariant-loop-i
invariant-loop-i l = Alike l.carried l.clusters l.n l.i
