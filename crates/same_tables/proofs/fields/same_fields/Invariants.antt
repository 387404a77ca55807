-- `same_fields` meets its contract: what is left of the rows decides.
use Prim.Native.Nat.{◌-◌}
use mathlib.Core.Path.{◌≡◌}
use Rattle.same_tables.specs.Same.{same_field, same_fields, all_from}
use Rattle.same_tables.proofs.fields.same_fields.Given as goal

abbrev pub invariant-loop-i : goal.invariant-loop-i
invariant-loop-i l = same_fields l.old l.f l.new l.g l.count ≡ all_from (same_field l.old l.f l.new l.g) (l.count - l.i) l.i
