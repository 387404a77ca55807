-- `page_decoding::read::split_out` meets its contract. The invariant: the planes below p are placed. Assumes nothing.
use Rattle.std.proofs.Common.{◌≡◌, length}
use Rattle.page_decoding.specs.Passes.{placed_below}
use Rattle.page_decoding.proofs.read.split_out.Given as goal

abbrev pub invariant-loop-p : goal.invariant-loop-p
invariant-loop-p l = (l.out ≡ placed_below l.p l.n l.page l.initial.out) × (length l.out ≡ length l.initial.out)
