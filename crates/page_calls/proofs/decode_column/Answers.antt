use mathlib.Core.Logic.{inl, inr}
use native.Mathlib.Omega.{arith}
use Rattle.page_calls.proofs.Called.{column_short, column_called, column_narrowed}
use Rattle.page_calls.proofs.decode_column.Goals as goal
use Rattle.page_calls.proofs.decode_column.Goals.{then-column_type-gt-LARGEST_TYPE, else-column_type-gt-LARGEST_TYPE}

pub returns-then-res-lt1 : goal.returns-then-res-lt1
returns-then-res-lt1 c = column_short _ _ _ _ _ (omega arith)

pub overflow_cast-narrow : goal.overflow_cast-narrow
overflow_cast-narrow c =
    elim c.if-column_type-gt-LARGEST_TYPE.branch [
      | then-column_type-gt-LARGEST_TYPE w ↦ omega arith
      | else-column_type-gt-LARGEST_TYPE w ↦ omega arith
    ]

pub returns : goal.returns
returns c =
    column_narrowed
    (elim c.if-column_type-gt-LARGEST_TYPE.branch [
      | then-column_type-gt-LARGEST_TYPE w ↦ inl (omega arith, omega arith)
      | else-column_type-gt-LARGEST_TYPE w ↦ inr (omega arith)
    ])
    (column_called c.decode_column-answer.result (omega arith) c.decode_column-answer.ensures.answers c.decode_column-answer.ensures.leaves c.tell_column.ensures.answers c.tell_column.ensures.leaves)
