use Prim.Native.Nat.{ℕ}
use mathlib.Core.Path.{◌≡◌}
use lib.ListN.{get_or, take}
use Rattle.rows.specs.Words.{bit}
use Rattle.rows.specs.Tables.{columns_in}
use Rattle.parents.specs.Marks.{DarkMarks}
use Rattle.parents.specs.Dark.{dark, hanging}
use Rattle.parents.proofs.dark.marks_of.Given as goal

abbrev pub invariant-loop-i : goal.invariant-loop-i
invariant-loop-i l = ((f : ℕ) → get_or l.marks f 0 ≡ bit (dark (take l.n l.parents) (hanging l.n (columns_in l.columns l.i)) f)) × DarkMarks l.parents l.marks l.n
