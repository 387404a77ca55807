use Rattle.page_list_check.proofs.Order.{InRun}
use Rattle.page_list_check.proofs.columns.run_end.Given as goal

abbrev pub invariant-loop-i : goal.invariant-loop-i
invariant-loop-i l = InRun l.pages l.c l.first l.i
