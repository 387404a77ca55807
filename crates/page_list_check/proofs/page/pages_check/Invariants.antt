use Rattle.page_list_check.proofs.PageLaws.{Tallied}
use Rattle.page_list_check.proofs.page.pages_check.Given as goal

abbrev pub invariant-loop-i : goal.invariant-loop-i
invariant-loop-i l = Tallied l.file l.bits l.pages l.n l.i l.elements
