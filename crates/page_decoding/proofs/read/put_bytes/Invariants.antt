-- `page_decoding::read::put_bytes` meets its contract. The invariant: the first words are the bytes of the first j of these. Assumes nothing.
use Rattle.std.proofs.Common.{◌*◌}
use Rattle.coding.specs.Layout.{plain}
use Rattle.planes.proofs.Filling.{Filled}
use Rattle.page_decoding.proofs.read.put_bytes.Given as goal

abbrev pub invariant-loop-j : goal.invariant-loop-j
invariant-loop-j l = Filled (plain 2 l.words) l.initial.out (2 * l.j) l.out
