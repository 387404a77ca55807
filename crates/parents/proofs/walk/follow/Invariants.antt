use Rattle.parents.proofs.Following.{Walk, blank}
use Rattle.parents.proofs.walk.follow.Given as goal

abbrev pub invariant-loop-f : goal.invariant-loop-f
invariant-loop-f l = Walk l.parents l.marks l.n l.initial.f.0 l.f.0

abbrev pub decreases-loop-f : goal.decreases-loop-f
decreases-loop-f l = blank l.marks l.n
