-- `column_decoding::decode_column` meets its contract, page by page. Assumes nothing.
use Rattle.column_decoding.proofs.Turns.{Reached}
use Rattle.column_decoding.proofs.decode_column.Given as goal

abbrev pub invariant-loop-i : goal.invariant-loop-i
invariant-loop-i l = Reached l.column_type l.file l.pages l.initial.out l.i l.start l.out
