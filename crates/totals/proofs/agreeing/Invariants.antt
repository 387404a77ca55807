use Rattle.totals.proofs.TotalLaws.{Noted}
use Rattle.totals.proofs.agreeing.Given as goal

abbrev pub invariant-loop-i : goal.invariant-loop-i
invariant-loop-i l = Noted l.entries l.columns l.n l.sums l.i l.marks
