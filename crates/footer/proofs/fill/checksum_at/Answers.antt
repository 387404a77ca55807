use Rattle.clusters.specs.Answers.{checksum_at}
use borrow.Author.Rules.{rules}
use Rattle.footer.proofs.fill.checksum_at.Goals as goal

pub returns-then-carried : goal.returns-then-carried
unfolding checksum_at
returns-then-carried c = simp (c.if-carried.true, c.little_4.ensures.0.is)

pub returns : goal.returns
unfolding checksum_at
returns c = simp c.if-carried.false
