use native.Mathlib.Omega.{arith}
use lib.ListN.{take}
use Rattle.listing.specs.Order.{holder}
use Rattle.field_order.proofs.Linking.{linked_none, linked_turn, linked_all}
use Rattle.field_order.proofs.links.link_fields.Goals as goal

pub loop-k-init : goal.loop-k-init
loop-k-init c = linked_none (holder (take c.args.n c.args.parents.now)) c.args.n 1539 (omega (arith, c.requires.n_le_most_fields))

pub holder_of-above-requires : goal.holder_of-above-requires
holder_of-above-requires c = (c.requires.n_le_most_fields.1, omega arith, c.requires.inside)

pub loop-k-preserved : goal.loop-k-preserved
loop-k-preserved c = linked_turn _ c.args.n c.loop-k.k c.holder_of-above.result c.loop-k.links (omega arith) (omega arith) c.holder_of-above.ensures.0 c.holder_of-above.ensures.1 c.loop-k.invariant

pub returns : goal.returns
returns c = linked_all c.loop-k.invariant (omega arith)
