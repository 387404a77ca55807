-- `page_decoding::read::numbers_each` meets its contract. The invariant: the first i words are the first i numbers. Assumes nothing.
use Rattle.coding.specs.Layout.{unplain}
use Rattle.planes.proofs.Filling.{Filled}
use Rattle.page_decoding.proofs.read.numbers_each.Given as goal

abbrev pub invariant-loop-i : goal.invariant-loop-i
invariant-loop-i l = Filled (unplain l.k l.n l.bytes) l.initial.out l.i l.out
