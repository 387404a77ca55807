use Rattle.field_check.proofs.Lengths.{counted_none, counted_more, counted_all}
use Rattle.field_check.proofs.long.fields_long.Goals as goal

pub loop-i-init : goal.loop-i-init
loop-i-init c = counted_none _ _

pub loop-i-preserved : goal.loop-i-preserved
loop-i-preserved c = counted_more _ _ c.loop-i.invariant c.loop-i-test.true (rw c.field_row.ensures at c.with_field-total.ensures)

pub returns : goal.returns
returns c = counted_all _ _ c.loop-i.invariant c.loop-i-test.false
