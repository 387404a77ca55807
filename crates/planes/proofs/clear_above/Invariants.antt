-- `planes::clear_above` meets its contract. The invariant: the first i words are cleared. Assumes nothing.
use mathlib.Core.Path.{refl, sym, ap, ◌∙◌}
use mathlib.Core.List.{List, ◌++◌, append-nil}
use Prim.Native.Nat.{ℕ, ◌-◌, ◌≤◌}
use native.Mathlib.Nat.{le_of_eq}
use native.Mathlib.Omega.{arith}
use lib.ListN.{length, replicate, length-replicate, get_or-replicate, drop_of_length-le}
use borrow.Author.Tests.{lt-ltb, le-ltb}
use Rattle.planes.specs.Plane.{cleared}
use Rattle.planes.proofs.Filling.{Filled, fill_turn, fill_done}
use Rattle.planes.proofs.clear_above.Given as goal

abbrev pub invariant-loop-i : goal.invariant-loop-i
invariant-loop-i l = (l.i ≤ length l.initial.out) × Filled (replicate (length l.initial.out) 0) l.initial.out l.i l.out
