-- `planes::pass::place_each` meets its contract. The invariant: the first i bytes are joined. Assumes nothing.
use Rattle.planes.proofs.Joins.{Joined}
use Rattle.planes.proofs.pass.place_each.Given as goal

abbrev pub invariant-loop-i : goal.invariant-loop-i
invariant-loop-i l = Joined l.unit l.keep l.plane l.initial.out l.i l.out
