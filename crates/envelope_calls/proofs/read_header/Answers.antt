use native.Mathlib.Omega.{arith}
use Rattle.envelope_calls.proofs.Called.{header_short, header_called}
use Rattle.envelope_calls.proofs.read_header.Goals as goal

pub returns-then-res-lt7 : goal.returns-then-res-lt7
returns-then-res-lt7 c = header_short _ _ _ _ _ (omega arith)

pub returns : goal.returns
returns c = header_called (omega arith) c.read_header-answer.ensures c.tell_header.ensures.answers c.tell_header.ensures.leaves
