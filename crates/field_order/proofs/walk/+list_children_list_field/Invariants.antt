use Rattle.std.proofs.Common.{◌-◌, ◌+◌}
use Rattle.field_order.specs.Links.{up_in}
use Rattle.field_order.proofs.Walking.{Walking}
use Rattle.field_order.proofs.walk.+list_children_list_field.Given as goal

-- listing a field comes before listing what hangs on it, with as many fields left
abbrev pub decreases-list_children : goal.decreases-list_children
decreases-list_children l = l.left + l.left

abbrev pub decreases-list_field : goal.decreases-list_field
decreases-list_field l = l.left + l.left + 1

abbrev pub invariant-list_children-loop-k : goal.invariant-list_children-loop-k
invariant-list_children-loop-k l = Walking (up_in l.links) l.n l.left l.level l.above l.fn.entries l.at l.entries l.row l.k

abbrev pub decreases-list_children-loop-k : goal.decreases-list_children-loop-k
decreases-list_children-loop-k l = l.n - l.k
