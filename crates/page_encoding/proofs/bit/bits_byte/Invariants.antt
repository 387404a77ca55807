-- `page_encoding::bit::bits_byte` meets its contract. The invariant: x is the byte of the last count - j bits, and below 2 to that power. Assumes nothing.
use Rattle.coding.specs.Layout.{bits_byte}
use mathlib.Core.Path.{◌≡◌}
use Prim.Native.Nat.{◌+◌, ◌-◌, ◌^◌, ◌<◌}
use lib.ListN.{drop}
use Rattle.page_encoding.proofs.bit.bits_byte.Given as goal

abbrev pub invariant-loop-j : goal.invariant-loop-j
invariant-loop-j l = (l.x ≡ bits_byte (l.count - l.j) (drop (l.from + l.j) l.words)) × (l.x < 2 ^ (l.count - l.j))
