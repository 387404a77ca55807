use Rattle.page_list_check.proofs.Order.{Ordered}
use Rattle.page_list_check.proofs.columns.in_order.Given as goal

abbrev pub invariant-loop-i : goal.invariant-loop-i
invariant-loop-i l = Ordered l.pages l.n l.i l.least
