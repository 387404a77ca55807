-- The loop's invariant: the bytes that are left take the register to where all of them take it.
use mathlib.Core.Path.{◌≡◌}
use lib.ListN.{drop}
use Rattle.checksum.specs.Crc.{fold}
use Rattle.checksum.proofs.first.first.Given as goal

abbrev pub invariant-loop-b : goal.invariant-loop-b
invariant-loop-b l = fold l.c (drop l.b-index l.bytes) ≡ fold 0xFFFFFFFF l.bytes
