use Rattle.wire.proofs.Laws.{passed_on}
use Rattle.records.specs.Records.{field}
use borrow.Author.Rules.{rules}
use Rattle.field_records.proofs.field.field_at.Goals as goal

pub returns : goal.returns
unfolding field
returns c = rw (← c.field_head_at.ensures, c.in_ok-head.was, ← c.field_texts_at.ensures, c.in_ok-texts.was)

pub returns-in_err-texts : goal.returns-in_err-texts
unfolding field
returns-in_err-texts c = rw (passed_on c.from_residual-in_err-texts.result _ c.from_residual-in_err-texts.ensures.1, ← c.field_head_at.ensures, c.in_ok-head.was, ← c.field_texts_at.ensures, c.in_err-texts.was)

pub returns-in_err-head : goal.returns-in_err-head
unfolding field
returns-in_err-head c = rw (passed_on c.from_residual.result _ c.from_residual.ensures.1, ← c.field_head_at.ensures, c.in_err-head.was)
