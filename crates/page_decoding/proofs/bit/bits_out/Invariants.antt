-- `page_decoding::bit::bits_out` meets its contract. The invariant: the first j words are the first j bits of byte m. Assumes nothing.
use Rattle.std.proofs.Common.{◌*◌}
use Rattle.coding.specs.Layout.{unpacked}
use Rattle.planes.proofs.Filling.{Filled}
use Rattle.page_decoding.proofs.bit.bits_out.Given as goal

abbrev pub invariant-loop-j : goal.invariant-loop-j
invariant-loop-j l = Filled (unpacked l.count (8 * l.m) l.page) l.initial.out l.j l.out
