use mathlib.Core.Path.{refl}
use native.Mathlib.Omega.{arith}
use Rattle.parents.proofs.walk.parent_of.Goals as goal

pub overflow_cast-result : goal.overflow_cast-result
overflow_cast-result c = omega (arith, c.type_inv.parents c.args.field.0)

pub returns : goal.returns
returns c = refl
