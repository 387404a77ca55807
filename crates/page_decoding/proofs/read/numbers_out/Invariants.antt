-- `page_decoding::read::numbers_out` meets its contract. The invariant: the first words are the numbers of the first m blocks. Assumes nothing.
use Rattle.std.proofs.Common.{◌*◌}
use Rattle.coding.specs.Layout.{unplain}
use Rattle.page_decoding.specs.Blocks.{block_of}
use Rattle.page_decoding.proofs.Blocks.{Laid}
use Rattle.page_decoding.proofs.read.numbers_out.Given as goal

abbrev pub invariant-loop-m : goal.invariant-loop-m
invariant-loop-m l = Laid (unplain l.k (l.m * block_of l.k) l.bytes) l.initial.out l.out
