-- `true_count::ones::last_word` meets its contract. The invariant: the bytes from i on are spelt. Assumes nothing.
use Prim.Native.Nat.{◌-◌, ◌≤◌}
use mathlib.Core.Path.{◌≡◌}
use lib.ListN.{length}
use Rattle.numbers.specs.Numbers.{little}
use Rattle.true_count.proofs.ones.last_word.Given as goal

abbrev pub invariant-loop-i : goal.invariant-loop-i
invariant-loop-i l = (l.at ≤ l.i) × (l.word ≡ little (length l.s - l.i) l.s l.i)
