use mathlib.Core.Path.{sym, ap, ◌∙◌}
use Rattle.outcome.specs.Outcome.{code_of}
use Rattle.page_calls.proofs.Called.{high_decode, high_decoded}
use Rattle.page_calls.proofs.decode_page.Goals as goal

pub returns-then-column_type-gt-LARGEST_TYPE : goal.returns-then-column_type-gt-LARGEST_TYPE
returns-then-column_type-gt-LARGEST_TYPE c = record { answers = sym (ap code_of (high_decode _ c.if-column_type-gt-LARGEST_TYPE.true _ _ _ _ _)); leaves = high_decoded _ c.if-column_type-gt-LARGEST_TYPE.true _ _ _ _ _ }

pub returns : goal.returns
returns c = record { answers = c.tell_page.ensures.answers ∙ ap code_of c.decode_page-answer.ensures.answers; leaves = c.decode_page-answer.ensures.leaves }
