use Rattle.writing.specs.Header.{field_piece}
use Rattle.writing.proofs.Items.{first_alone}
use Rattle.field_check.proofs.number.field_number.Goals as goal

pub returns : goal.returns
unfolding field_piece
returns c = rw (first_alone, ← c.head_number-head.ensures, ← c.texts_number.ensures) c.first.ensures
