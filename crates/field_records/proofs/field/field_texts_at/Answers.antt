use Rattle.wire.proofs.Laws.{passed_on}
use Rattle.records.specs.Records.{field_texts}
use borrow.Author.Rules.{rules}
use Rattle.field_records.proofs.field.field_texts_at.Goals as goal

pub returns-in_err-name : goal.returns-in_err-name
unfolding field_texts
returns-in_err-name c = rw (passed_on c.from_residual.result _ c.from_residual.ensures.1, ← c.string_at.ensures, c.in_err-name.was)

pub returns-in_err-type_name : goal.returns-in_err-type_name
unfolding field_texts
returns-in_err-type_name c = rw (passed_on c.from_residual-in_err-type_name.result _ c.from_residual-in_err-type_name.ensures.1, ← c.string_at.ensures, c.in_ok-name.was, ← c.string_at-2.ensures, c.in_err-type_name.was)

pub returns-in_err-type_alias : goal.returns-in_err-type_alias
unfolding field_texts
returns-in_err-type_alias c = rw (passed_on c.from_residual-in_err-type_alias.result _ c.from_residual-in_err-type_alias.ensures.1, ← c.string_at.ensures, c.in_ok-name.was, ← c.string_at-2.ensures, c.in_ok-type_name.was, ← c.string_at-3.ensures, c.in_err-type_alias.was)

pub returns : goal.returns
unfolding field_texts
returns c = rw (← c.string_at.ensures, c.in_ok-name.was, ← c.string_at-2.ensures, c.in_ok-type_name.was, ← c.string_at-3.ensures, c.in_ok-type_alias.was, ← c.string_at-4.ensures, c.in_ok-description.was)

pub returns-in_err-description : goal.returns-in_err-description
unfolding field_texts
returns-in_err-description c = rw (passed_on c.from_residual-in_err-description.result _ c.from_residual-in_err-description.ensures.1, ← c.string_at.ensures, c.in_ok-name.was, ← c.string_at-2.ensures, c.in_ok-type_name.was, ← c.string_at-3.ensures, c.in_ok-type_alias.was, ← c.string_at-4.ensures, c.in_err-description.was)
