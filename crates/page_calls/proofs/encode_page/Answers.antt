use native.Mathlib.Omega.{arith}
use Rattle.page_calls.proofs.Called.{encode_short, encode_called, encode_high}
use Rattle.page_calls.proofs.encode_page.Goals as goal

pub returns-then-res-lt1 : goal.returns-then-res-lt1
returns-then-res-lt1 c = encode_short _ _ _ _ _ _ _ (omega arith)

pub returns-then-column_type-gt-LARGEST_TYPE : goal.returns-then-column_type-gt-LARGEST_TYPE
returns-then-column_type-gt-LARGEST_TYPE c = encode_high _ _ _ _ _ _ _ c.if-column_type-gt-LARGEST_TYPE.true (omega arith)

pub returns : goal.returns
returns c = encode_called c.encode_page-answer.result (omega arith) c.encode_page-answer.ensures.answers c.encode_page-answer.ensures.leaves c.tell_page.ensures.answers c.tell_page.ensures.leaves
