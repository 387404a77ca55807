use Rattle.wire.proofs.Laws.{passed_on}
use Rattle.records.specs.Records.{field_head}
use borrow.Author.Rules.{rules}
use Rattle.field_records.proofs.field.field_head_at.Goals as goal

pub returns-in_err-field_version : goal.returns-in_err-field_version
unfolding field_head
returns-in_err-field_version c = rw (passed_on c.from_residual.result _ c.from_residual.ensures.1, ← c.number_4.ensures, c.in_err-field_version.was)

pub returns-in_err-type_version : goal.returns-in_err-type_version
unfolding field_head
returns-in_err-type_version c = rw (passed_on c.from_residual-in_err-type_version.result _ c.from_residual-in_err-type_version.ensures.1, ← c.number_4.ensures, c.in_ok-field_version.was, ← c.number_4-2.ensures, c.in_err-type_version.was)

pub returns-in_err-parent : goal.returns-in_err-parent
unfolding field_head
returns-in_err-parent c = rw (passed_on c.from_residual-in_err-parent.result _ c.from_residual-in_err-parent.ensures.1, ← c.number_4.ensures, c.in_ok-field_version.was, ← c.number_4-2.ensures, c.in_ok-type_version.was, ← c.number_below.ensures, c.in_err-parent.was)

pub returns-in_err-role : goal.returns-in_err-role
unfolding field_head
returns-in_err-role c = rw (passed_on c.from_residual-in_err-role.result _ c.from_residual-in_err-role.ensures.1, ← c.number_4.ensures, c.in_ok-field_version.was, ← c.number_4-2.ensures, c.in_ok-type_version.was, ← c.number_below.ensures, c.in_ok-parent.was, ← c.listed_2.ensures, c.in_err-role.was)

pub returns-in_err-flags : goal.returns-in_err-flags
unfolding field_head
returns-in_err-flags c = rw (passed_on c.from_residual-in_err-flags.result _ c.from_residual-in_err-flags.ensures.1, ← c.number_4.ensures, c.in_ok-field_version.was, ← c.number_4-2.ensures, c.in_ok-type_version.was, ← c.number_below.ensures, c.in_ok-parent.was, ← c.listed_2.ensures, c.in_ok-role.was, ← c.listed_2-2.ensures, c.in_err-flags.was)

pub returns : goal.returns
unfolding field_head
returns c = rw (← c.number_4.ensures, c.in_ok-field_version.was, ← c.number_4-2.ensures, c.in_ok-type_version.was, ← c.number_below.ensures, c.in_ok-parent.was, ← c.listed_2.ensures, c.in_ok-role.was, ← c.listed_2-2.ensures, c.in_ok-flags.was, ← c.repetition_at.ensures, c.in_ok-repetition.was)

pub returns-in_err-repetition : goal.returns-in_err-repetition
unfolding field_head
returns-in_err-repetition c = rw (passed_on c.from_residual-in_err-repetition.result _ c.from_residual-in_err-repetition.ensures.1, ← c.number_4.ensures, c.in_ok-field_version.was, ← c.number_4-2.ensures, c.in_ok-type_version.was, ← c.number_below.ensures, c.in_ok-parent.was, ← c.listed_2.ensures, c.in_ok-role.was, ← c.listed_2-2.ensures, c.in_ok-flags.was, ← c.repetition_at.ensures, c.in_err-repetition.was)
