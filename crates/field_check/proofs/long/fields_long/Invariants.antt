use Rattle.field_check.proofs.Lengths.{Counted}
use Rattle.field_check.proofs.long.fields_long.Given as goal

abbrev pub invariant-loop-i : goal.invariant-loop-i
invariant-loop-i l = Counted l.fields l.n l.i l.total
