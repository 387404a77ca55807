use Rattle.parents.proofs.Following.{blank}
use Rattle.parents.proofs.Darkening.{Climb}
use Rattle.parents.proofs.dark.darken.Given as goal

abbrev pub invariant-loop-f : goal.invariant-loop-f
invariant-loop-f l = Climb l.parents l.initial.marks l.marks l.n l.initial.f.0 l.f.0

abbrev pub decreases-loop-f : goal.decreases-loop-f
decreases-loop-f l = blank l.marks l.n
