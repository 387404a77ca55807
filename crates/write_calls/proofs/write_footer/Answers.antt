use native.Mathlib.Omega.{arith}
use Rattle.write_calls.proofs.Called.{write_short, write_called}
use Rattle.write_calls.proofs.write_footer.Goals as goal

pub returns-then-res-lt1 : goal.returns-then-res-lt1
returns-then-res-lt1 c = write_short _ _ _ _ (omega arith)

pub returns : goal.returns
returns c = write_called (omega arith) c.write_footer-answer.ensures c.tell_written.ensures.answers c.tell_written.ensures.leaves
