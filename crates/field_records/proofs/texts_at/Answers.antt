use Rattle.wire.proofs.Laws.{passed_on}
use Rattle.records.specs.Records.{texts}
use borrow.Author.Rules.{rules}
use Rattle.field_records.proofs.texts_at.Goals as goal

pub returns : goal.returns
unfolding texts
returns c = simp (← c.features_at.ensures, c.in_ok-name_at.was, ← c.string_at.ensures, c.in_ok-name.was, ← c.string_at-2.ensures, c.in_ok-description.was)

pub returns-in_err-description : goal.returns-in_err-description
unfolding texts
returns-in_err-description c = simp (passed_on c.from_residual-in_err-description.result _ c.from_residual-in_err-description.ensures.1, ← c.features_at.ensures, c.in_ok-name_at.was, ← c.string_at.ensures, c.in_ok-name.was, ← c.string_at-2.ensures, c.in_err-description.was)

pub returns-in_err-name : goal.returns-in_err-name
unfolding texts
returns-in_err-name c = simp (passed_on c.from_residual-in_err-name.result _ c.from_residual-in_err-name.ensures.1, ← c.features_at.ensures, c.in_ok-name_at.was, ← c.string_at.ensures, c.in_err-name.was)

pub returns-in_err-name_at : goal.returns-in_err-name_at
unfolding texts
returns-in_err-name_at c = simp (passed_on c.from_residual.result _ c.from_residual.ensures.1, ← c.features_at.ensures, c.in_err-name_at.was)
