-- `split_pages::write::write_few` meets its contract. The invariant: the first p bytes are those of the page. Assumes nothing.
use Rattle.std.proofs.Common.{◌/◌}
use Rattle.coding.specs.Layout.{planes}
use Rattle.split_pages.specs.Split.{codes}
use Rattle.planes.proofs.Filling.{Filled}
use Rattle.split_pages.proofs.write.write_few.Given as goal

abbrev pub invariant-loop-p : goal.invariant-loop-p
invariant-loop-p l = Filled (planes (l.width / 8) (codes l.delta l.zigzag l.width 0 l.words)) l.initial.out l.p l.out
