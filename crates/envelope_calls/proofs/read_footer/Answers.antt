use native.Mathlib.Omega.{arith}
use Rattle.envelope_calls.proofs.Called.{footer_short, footer_called}
use Rattle.envelope_calls.proofs.read_footer.Goals as goal

pub returns-then-res-lt2 : goal.returns-then-res-lt2
returns-then-res-lt2 c = footer_short _ _ _ _ (omega arith)

pub returns : goal.returns
returns c = footer_called (omega arith) c.read_footer-answer.ensures c.tell_footer.ensures.answers c.tell_footer.ensures.leaves
