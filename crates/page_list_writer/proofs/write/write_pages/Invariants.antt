use Rattle.page_list_writer.proofs.Bytes.{Pages}
use Rattle.page_list_writer.proofs.write.write_pages.Given as goal

abbrev pub invariant-loop-i : goal.invariant-loop-i
invariant-loop-i l = Pages l.pages l.c l.initial.out l.at l.i l.out l.next
