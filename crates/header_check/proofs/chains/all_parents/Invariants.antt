use Rattle.header_check.proofs.Parents.{Filled}
use Rattle.header_check.proofs.chains.all_parents.Given as goal

abbrev pub invariant-loop-i : goal.invariant-loop-i
invariant-loop-i l = Filled l.fields l.i l.all
