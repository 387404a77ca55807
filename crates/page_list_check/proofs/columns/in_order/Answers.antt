use Rattle.page_list_check.proofs.Order.{ordered_none, ordered_more, ordered_all, order_falls, names_none}
use Rattle.page_list_check.proofs.columns.in_order.Goals as goal

pub loop-i-init : goal.loop-i-init
loop-i-init c = ordered_none c.args.pages.now

pub returns-then-column-least : goal.returns-then-column-least
returns-then-column-least c = order_falls c.args.pages.now c.loop-i.invariant c.loop-i-test.true c.word-column.ensures c.if-column-least.true

pub returns-then-columns-column : goal.returns-then-columns-column
returns-then-columns-column c = names_none c.args.pages.now c.loop-i.invariant c.loop-i-test.true c.word-column.ensures c.if-column-least.false c.if-columns-column.true

pub loop-i-preserved : goal.loop-i-preserved
loop-i-preserved c = ordered_more c.args.pages.now c.loop-i.invariant c.loop-i-test.true c.word-column.ensures c.if-column-least.false c.if-columns-column.false

pub returns : goal.returns
returns c = ordered_all c.args.pages.now c.loop-i.invariant c.loop-i-test.false
