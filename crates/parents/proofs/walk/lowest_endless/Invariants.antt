use mathlib.Core.Path.{◌≡◌}
use Rattle.parents.specs.Parents.{endless}
use Rattle.parents.specs.Marks.{Marked}
use Rattle.std.specs.Prelude.{None}
use Rattle.parents.proofs.walk.lowest_endless.Given as goal

abbrev pub invariant-loop-f : goal.invariant-loop-f
invariant-loop-f l = (endless l.parents l.n l.f ≡ None) × Marked l.parents l.marks l.n l.f
