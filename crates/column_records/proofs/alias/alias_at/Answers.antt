use Rattle.wire.proofs.Laws.{passed_on}
use Rattle.records.specs.Records.{alias}
use borrow.Author.Rules.{rules}
use Rattle.column_records.proofs.alias.alias_at.Goals as goal

pub returns : goal.returns
unfolding alias
returns c = rw (← c.number_below.ensures, c.in_ok-column.was, ← c.field_at.ensures, c.in_ok-field.was)

pub returns-in_err-field : goal.returns-in_err-field
unfolding alias
returns-in_err-field c = rw (passed_on c.from_residual-in_err-field.result _ c.from_residual-in_err-field.ensures.1, ← c.number_below.ensures, c.in_ok-column.was, ← c.field_at.ensures, c.in_err-field.was)

pub returns-in_err-column : goal.returns-in_err-column
unfolding alias
returns-in_err-column c = rw (passed_on c.from_residual.result _ c.from_residual.ensures.1, ← c.number_below.ensures, c.in_err-column.was)
