use borrow.Author.Rules.{rules}
use Rattle.numbers.specs.Numbers.{little}
use Rattle.numbers.proofs.two.Goals as goal

pub returns : goal.returns
unfolding little
returns c = search rules
