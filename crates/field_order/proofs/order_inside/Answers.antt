use mathlib.Core.Path.{sym, ◌∙◌}
use native.Mathlib.Omega.{arith}
use Rattle.parents.proofs.InsideLaws.{inside_few, inside_is}
use Rattle.field_order.proofs.Ordering.{can_list, all_listed, none_listed}
use Rattle.field_order.proofs.order_inside.Goals as goal

pub link_fields-links-requires : goal.link_fields-links-requires
link_fields-links-requires c = record { n_le_most_fields = inside_few _ _ c.requires; inside = inside_is _ _ c.requires }

pub list_children-requires : goal.list_children-requires
list_children-requires c = let both = can_list c.args.parents.now c.args.n c.requires (sym c.in-None.is ∙ c.endless_chain.ensures) c.link_fields-links.ensures c.args.entries.now (omega (arith, c.well_formed)) in
    record { linked = both.0; above_le_n = both.1 }

pub returns-in-None : goal.returns-in-None
returns-in-None c = all_listed c.args.parents.now c.args.n c.requires (sym c.in-None.is ∙ c.endless_chain.ensures) c.link_fields-links.ensures c.list_children.ensures

pub returns-in-Some : goal.returns-in-Some
returns-in-Some c = none_listed c.args.parents.now c.args.n c.requires (sym c.in-Some.is ∙ c.endless_chain.ensures) c.args.entries.now
