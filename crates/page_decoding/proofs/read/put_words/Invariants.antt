-- `page_decoding::read::put_words` meets its contract. The invariant: the first j words are the first j of these. Assumes nothing.
use Rattle.planes.proofs.Filling.{Filled}
use Rattle.page_decoding.proofs.read.put_words.Given as goal

abbrev pub invariant-loop-j : goal.invariant-loop-j
invariant-loop-j l = Filled l.words l.initial.out l.j l.out
