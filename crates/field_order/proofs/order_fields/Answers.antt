use mathlib.Core.Path.{sym, ◌∙◌}
use native.Mathlib.Omega.{arith}
use Rattle.listing.specs.Order.{order_of}
use Rattle.field_order.proofs.Entering.{entered_none}
use Rattle.field_order.proofs.order_fields.Goals as goal

pub order_inside-requires : goal.order_inside-requires
order_inside-requires c = sym c.all_inside.ensures ∙ c.if-all_inside.true

pub returns-then-all_inside : goal.returns-then-all_inside
unfolding order_of
returns-then-all_inside c = rw (sym c.all_inside.ensures ∙ c.if-all_inside.true) c.order_inside.ensures

pub returns : goal.returns
unfolding order_of
returns c = rw (sym c.all_inside.ensures ∙ c.if-all_inside.false) (entered_none (omega arith))
