use mathlib.Core.Path.{refl}
use Rattle.rows.specs.Words.{field_words}
use Rattle.field_rows.proofs.field_words.Goals as goal

pub returns : goal.returns
unfolding field_words
returns c = refl
