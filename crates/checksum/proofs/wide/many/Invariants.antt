-- The loop's invariant: the words that are left, never fewer than five of those that there were, take the register to where all take it.
use mathlib.Core.Path.{◌≡◌}
use Prim.Native.Nat.{◌≤◌, min}
use Rattle.checksum.specs.Wide.{finish}
use Rattle.checksum.proofs.wide.many.Given as goal

abbrev pub invariant-loop-left : goal.invariant-loop-left
invariant-loop-left l = (min l.words 5 ≤ l.left) × (finish l.left l.bytes l.s ≡ finish l.words l.bytes l.initial.s)
