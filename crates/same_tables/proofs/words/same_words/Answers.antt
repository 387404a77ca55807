-- `same_words` meets its contract: the library compares the numbers one after the other.
use mathlib.Core.Path.{◌∙◌}
use Rattle.same_tables.proofs.Numbers.{same_pointwise}
use Rattle.same_tables.proofs.words.same_words.Goals as goal

pub returns : goal.returns
returns c = c.eq.ensures ∙ same_pointwise _ _
