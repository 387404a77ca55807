use native.Mathlib.Omega.{arith}
use Rattle.list_calls.proofs.Called.{list_short, list_called}
use Rattle.list_calls.proofs.list_fields.Goals as goal

pub returns-then-res-lt1 : goal.returns-then-res-lt1
returns-then-res-lt1 c = list_short _ _ _ (omega arith)

pub returns : goal.returns
returns c = list_called (omega arith) c.list_fields-answer.ensures c.tell_listed.ensures.answers c.tell_listed.ensures.leaves
