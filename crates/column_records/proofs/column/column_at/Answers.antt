use Rattle.wire.proofs.Laws.{passed_on}
use Rattle.records.specs.Records.{column}
use borrow.Author.Rules.{rules}
use Rattle.column_records.proofs.column.column_at.Goals as goal

pub returns-in_err-column_type : goal.returns-in_err-column_type
unfolding column
returns-in_err-column_type c = rw (passed_on c.from_residual.result _ c.from_residual.ensures.1, ← c.number_2.ensures, c.in_err-column_type.was)

pub returns-in_err-bits : goal.returns-in_err-bits
unfolding column
returns-in_err-bits c = rw (passed_on c.from_residual-in_err-bits.result _ c.from_residual-in_err-bits.ensures.1, ← c.number_2.ensures, c.in_ok-column_type.was, ← c.bits_at.ensures, c.in_err-bits.was)

pub returns-in_err-field : goal.returns-in_err-field
unfolding column
returns-in_err-field c = rw (passed_on c.from_residual-in_err-field.result _ c.from_residual-in_err-field.ensures.1, ← c.number_2.ensures, c.in_ok-column_type.was, ← c.bits_at.ensures, c.in_ok-bits.was, ← c.number_below.ensures, c.in_err-field.was)

pub returns : goal.returns
unfolding column
returns c = rw (← c.number_2.ensures, c.in_ok-column_type.was, ← c.bits_at.ensures, c.in_ok-bits.was, ← c.number_below.ensures, c.in_ok-field.was, ← c.listed_4.ensures, c.in_ok-flags.was)

pub returns-in_err-flags : goal.returns-in_err-flags
unfolding column
returns-in_err-flags c = rw (passed_on c.from_residual-in_err-flags.result _ c.from_residual-in_err-flags.ensures.1, ← c.number_2.ensures, c.in_ok-column_type.was, ← c.bits_at.ensures, c.in_ok-bits.was, ← c.number_below.ensures, c.in_ok-field.was, ← c.listed_4.ensures, c.in_err-flags.was)
