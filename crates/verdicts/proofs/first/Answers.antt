use Rattle.writing.proofs.Items.{first_nonzero}
use borrow.Author.Rules.{rules}
use Rattle.verdicts.proofs.first.Goals as goal

pub returns : goal.returns
returns c = first_nonzero c.args.a c.args.b c.if-a-eq0.false
