-- `figure_table::numerals::number_of` meets its contract. The invariant: the digits so far were read, and the rest of the text decides. Assumes nothing.
use Rattle.figure_table.proofs.NumeralLaws.{Reading}
use Rattle.figure_table.proofs.numerals.number_of.Given as goal

abbrev pub invariant-loop-byte : goal.invariant-loop-byte
invariant-loop-byte l = Reading l.text l.n l.byte-index
