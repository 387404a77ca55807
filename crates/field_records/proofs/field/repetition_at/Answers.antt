use borrow.Author.Tests.{eq-eqb, ne_eqb}
use Rattle.records.specs.Records.{repetition}
use borrow.Author.Rules.{rules}
use Rattle.field_records.proofs.field.repetition_at.Goals as goal

pub returns-then-flags-eq1 : goal.returns-then-flags-eq1
unfolding repetition
returns-then-flags-eq1 c = simp (eq-eqb _ _ c.if-flags-eq1.true, c.number_8.ensures)

pub returns : goal.returns
unfolding repetition
returns c = simp (ne_eqb _ _ c.if-flags-eq1.false)
