use Rattle.page_list_writer.proofs.Bytes.{Columns}
use Rattle.page_list_writer.proofs.write.write_columns.Given as goal

abbrev pub invariant-loop-i : goal.invariant-loop-i
invariant-loop-i l = Columns l.pages l.n l.initial.out l.at l.i l.first l.out l.next
