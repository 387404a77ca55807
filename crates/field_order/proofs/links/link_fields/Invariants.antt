use lib.ListN.{take}
use Rattle.listing.specs.Order.{holder}
use Rattle.field_order.specs.Links.{Linked}
use Rattle.field_order.proofs.links.link_fields.Given as goal

abbrev pub invariant-loop-k : goal.invariant-loop-k
invariant-loop-k l = Linked (holder (take l.n l.parents)) l.n l.k l.links
