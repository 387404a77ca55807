use Rattle.chain_moves.proofs.Summing.{Summing}
use Rattle.chain_moves.proofs.sum_of_moves.Given as goal

abbrev pub invariant-loop-f : goal.invariant-loop-f
invariant-loop-f l = Summing l.parents l.marks l.steps l.depths l.n l.f l.total
