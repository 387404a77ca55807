-- `page_decoding::difference::sum_up` meets its contract. The invariant: the first i words are the first i sums, and those from i on start from `before`.
-- Assumes nothing.
use Rattle.std.proofs.Common.{◌≡◌, take, drop}
use Rattle.coding.specs.Layout.{sums}
use Rattle.planes.proofs.Filling.{Filled}
use Rattle.page_decoding.proofs.difference.sum_up.Given as goal

abbrev pub invariant-loop-i : goal.invariant-loop-i
invariant-loop-i l = Filled (sums l.width 0 (take l.n l.initial.out)) l.initial.out l.i l.out × (drop l.i (sums l.width 0 (take l.n l.initial.out)) ≡ sums l.width l.before (drop l.i (take l.n l.initial.out)))
