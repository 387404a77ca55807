use mathlib.Core.Path.{sym, ◌∙◌}
use Rattle.writing.proofs.Items.{first_nonzero}
use Rattle.header_check.proofs.Parents.{payload_parented}
use Rattle.header_check.proofs.header_number.Goals as goal

pub returns-then-number-ne0 : goal.returns-then-number-ne0
returns-then-number-ne0 c = rw (← c.payload_number-number.ensures) (first_nonzero _ _ c.if-number-ne0.true)

pub chains_number-requires : goal.chains_number-requires
chains_number-requires c = payload_parented c.args.strings.now c.args.texts _ (sym c.payload_number-number.ensures ∙ c.if-number-ne0.false)

pub returns : goal.returns
returns c = rw (sym c.payload_number-number.ensures ∙ c.if-number-ne0.false) c.chains_number.ensures
