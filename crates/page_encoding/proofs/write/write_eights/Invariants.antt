-- `page_encoding::write::write_eights` meets its contract. The invariant: the bytes of the first m times eight elements are written. Assumes nothing.
use mathlib.Core.Path.{◌≡◌}
use Prim.Native.Nat.{◌*◌}
use lib.ListN.{length, take}
use Rattle.numbers.specs.Rows.{over}
use Rattle.coding.specs.Layout.{plain}
use Rattle.page_encoding.proofs.write.write_eights.Given as goal

abbrev pub invariant-loop-m : goal.invariant-loop-m
invariant-loop-m l = (l.out ≡ over (plain l.k (take (8 * l.m) l.words)) l.initial.out) × (length l.out ≡ length l.initial.out)
