-- `true_count::ones::count_all` meets its contract. The invariant: the ones of the first i words are counted. Assumes nothing.
use Prim.Native.Nat.{◌*◌, ◌≤◌}
use mathlib.Core.Path.{◌≡◌}
use lib.Count.{ones}
use Rattle.numbers.specs.Numbers.{little}
use Rattle.true_count.proofs.ones.count_all.Given as goal

abbrev pub invariant-loop-i : goal.invariant-loop-i
invariant-loop-i l = (l.total ≤ 64 * l.i) × (l.total ≡ ones (little (8 * l.i) l.s 0))
