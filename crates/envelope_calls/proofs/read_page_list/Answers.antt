use native.Mathlib.Omega.{arith}
use Rattle.envelope_calls.proofs.Called.{page_list_short, page_list_called}
use Rattle.envelope_calls.proofs.read_page_list.Goals as goal

pub returns-then-res-lt1 : goal.returns-then-res-lt1
returns-then-res-lt1 c = page_list_short _ _ _ (omega arith)

pub returns : goal.returns
returns c = page_list_called (omega arith) c.read_page_list-answer.ensures c.tell_page_list.ensures.answers c.tell_page_list.ensures.leaves
