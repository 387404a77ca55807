use mathlib.Core.Bool.{Bool}
use mathlib.Core.Path.{sym, ap, ◌∙◌}
use Rattle.wire.specs.Reading.{unless}
use Rattle.page_list_check.proofs.order_first.Goals as goal

pub returns-then-in_order : goal.returns-then-in_order
returns-then-in_order c = ap (λ (b : Bool). unless b 14 c.args.number) (sym c.if-in_order.true ∙ c.in_order.ensures)

pub returns : goal.returns
returns c = ap (λ (b : Bool). unless b 14 c.args.number) (sym c.if-in_order.false ∙ c.in_order.ensures)
