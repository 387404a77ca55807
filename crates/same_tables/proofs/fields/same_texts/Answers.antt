-- `same_texts` meets its contract: `read_text` says the characters.
use mathlib.Core.Path.{◌∙◌}
use Rattle.same_tables.proofs.Numbers.{same_pointwise}
use Rattle.same_tables.proofs.fields.same_texts.Goals as goal

pub returns : goal.returns
returns c = rw (← c.read_text.ensures, ← c.read_text-2.ensures) (c.eq.ensures ∙ same_pointwise _ _)
