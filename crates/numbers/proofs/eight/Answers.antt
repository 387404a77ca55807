use borrow.Author.Rules.{rules}
use native.Mathlib.Omega.{arith}
use Rattle.numbers.proofs.Numbers.{little_eight}
use Rattle.numbers.proofs.eight.Goals as goal

pub returns : goal.returns
returns c = omega (arith, little_eight c.args.s.now c.args.at)
