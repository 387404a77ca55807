use Rattle.parents.proofs.Following.{blank}
use Rattle.chain_moves.proofs.Climbing.{Climbing}
use Rattle.chain_moves.proofs.climb.Given as goal

abbrev pub invariant-loop-f : goal.invariant-loop-f
invariant-loop-f l = Climbing l.parents l.marks l.steps l.n l.initial.f l.f l.count

abbrev pub decreases-loop-f : goal.decreases-loop-f
decreases-loop-f l = blank l.marks l.n
