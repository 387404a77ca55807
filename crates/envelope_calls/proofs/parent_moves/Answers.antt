use native.Mathlib.Omega.{arith}
use Rattle.envelope_calls.proofs.Called.{moves_short, moves_called}
use Rattle.envelope_calls.proofs.parent_moves.Goals as goal

pub returns-then-res-lt1 : goal.returns-then-res-lt1
returns-then-res-lt1 c = moves_short _ _ (omega arith)

pub returns : goal.returns
returns c = moves_called (omega arith) c.parent_moves-answer.ensures c.tell_moves.ensures.answers c.tell_moves.ensures.leaves
