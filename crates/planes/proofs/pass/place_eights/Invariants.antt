-- `planes::pass::place_eights` meets its contract. The invariant: the bytes of the first n eights are joined. Assumes nothing.
use Prim.Native.Nat.{◌*◌}
use Rattle.planes.proofs.Joins.{Joined}
use Rattle.planes.proofs.pass.place_eights.Given as goal

abbrev pub invariant-loop-n : goal.invariant-loop-n
invariant-loop-n l = Joined l.unit l.keep l.plane l.initial.out (8 * l.n) l.out
