-- `true_count::ones::count` meets its contract. Assumes nothing.
use mathlib.Core.Path.{refl}
use native.Mathlib.Omega.{arith}
use lib.Count.{ones-le}
use Rattle.true_count.proofs.ones.count.Goals as goal

pub overflow_cast-result : goal.overflow_cast-result
overflow_cast-result c = omega (arith, ones-le 64 c.args.word (omega arith))

pub returns : goal.returns
returns c = (refl, ones-le 64 c.args.word (omega arith))
