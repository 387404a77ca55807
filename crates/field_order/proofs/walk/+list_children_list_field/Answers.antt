-- What is entered so far and what the callee enters are joined by the lemmas of `Walking`.
use Rattle.std.proofs.Common.{arith}
use Rattle.field_order.proofs.Walking.{none_left, walk_starts, walk_room, walk_turn, walk_ends, field_listed}
use Rattle.field_order.proofs.walk.+list_children_list_field.Goals as goal

pub list_children-returns-then-left-eq0 : goal.list_children-returns-then-left-eq0
list_children-returns-then-left-eq0 t c = none_left _ _ _ _ _ _ _ c.if-left-eq0.true c.requires.above_le_n.2

pub list_children-loop-k-init : goal.list_children-loop-k-init
list_children-loop-k-init t c = walk_starts _ _ _ _ _ _ _ c.requires.linked c.requires.above_le_n.0 c.requires.above_le_n.2

pub list_children-list_field-row-requires : goal.list_children-list_field-row-requires
list_children-list_field-row-requires t c =
    (omega (arith, c.decreases), (c.requires.linked, (c.loop-k-test.true, omega arith, walk_room _ _ _ _ _ _ _ c.if-left-eq0.false c.loop-k.invariant c.loop-k-test.true c.requires.above_le_n.2)))

pub list_children-loop-k-preserved : goal.list_children-loop-k-preserved
list_children-loop-k-preserved t c =
    walk_turn _ _ _ _ _ _ _ c.if-left-eq0.false c.loop-k.invariant c.loop-k-test.true c.requires.above_le_n.2 c.requires.linked c.list_field-row.ensures

pub list_children-returns : goal.list_children-returns
list_children-returns t c = walk_ends _ _ _ _ _ _ _ c.if-left-eq0.false c.loop-k.invariant (omega arith)

pub list_field-returns : goal.list_field-returns
list_field-returns t c = field_listed _ c.requires.k_lt_n.2 c.put_words.ensures c.put_words.auto.table c.list_children.ensures
