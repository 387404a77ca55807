use Rattle.page_list_check.proofs.ColumnLaws.{Swept}
use Rattle.page_list_check.proofs.columns.columns_check.Given as goal

abbrev pub invariant-loop-i : goal.invariant-loop-i
invariant-loop-i l = Swept l.file l.columns l.n l.pages l.i l.first l.elements
