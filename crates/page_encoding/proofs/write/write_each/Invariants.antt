-- `page_encoding::write::write_each` meets its contract. Assumes nothing.
use Prim.Native.Nat.{◌*◌}
use Rattle.coding.specs.Layout.{plain}
use Rattle.planes.proofs.Filling.{Filled}
use Rattle.page_encoding.proofs.write.write_each.Given as goal

abbrev pub invariant-loop-i : goal.invariant-loop-i
invariant-loop-i l = Filled (plain l.k l.words) l.initial.out (l.i * l.k) l.out
