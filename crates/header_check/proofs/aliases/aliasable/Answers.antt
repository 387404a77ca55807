use Rattle.header_check.proofs.Words.{aliasable_good, aliasable_bad}
use Rattle.header_check.proofs.aliases.aliasable.Goals as goal

pub returns-then-flags-eq1 : goal.returns-then-flags-eq1
returns-then-flags-eq1 c = aliasable_good c.args.fields.now c.args.field (rw c.word-flags.ensures at c.if-flags-eq1.true)

pub returns : goal.returns
returns c = aliasable_bad c.args.fields.now c.args.field (rw c.word-flags.ensures at c.if-flags-eq1.false)
