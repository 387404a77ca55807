use Rattle.writing.specs.Header.{field_texts_piece}
use Rattle.writing.proofs.Items.{first_alone}
use Rattle.field_check.proofs.number.texts_number.Goals as goal

pub returns : goal.returns
unfolding field_texts_piece
returns c = rw (first_alone, ← c.text_number-name.ensures, ← c.text_number-type_name.ensures, ← c.text_number-type_alias.ensures, ← c.text_number-description.ensures, ← c.first-last.ensures, ← c.first.ensures) c.first-2.ensures
