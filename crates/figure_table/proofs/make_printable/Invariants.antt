-- `figure_table::make_printable` meets its contract. The invariant: so many bytes are as they print. Assumes nothing.
use Rattle.figure_table.proofs.ShownLaws.{Showing}
use Rattle.figure_table.proofs.make_printable.Given as goal

abbrev pub invariant-loop-byte : goal.invariant-loop-byte
invariant-loop-byte l = Showing l.initial.bytes l.byte-index l.bytes
