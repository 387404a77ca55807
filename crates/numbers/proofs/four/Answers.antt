use borrow.Author.Rules.{rules}
use native.Mathlib.Omega.{arith}
use Rattle.numbers.proofs.Numbers.{little_four}
use Rattle.numbers.proofs.four.Goals as goal

pub returns : goal.returns
returns c = (omega (arith, little_four c.args.s.now c.args.at), omega arith)
