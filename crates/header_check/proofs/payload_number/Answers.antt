use Rattle.header_check.proofs.Whole.{payload_number}
use Rattle.header_check.proofs.payload_number.Goals as goal

pub returns : goal.returns
returns c = let a = c.args in
    rw (payload_number a.strings.now a.texts a.fields.now a.columns.now a.aliases.now, ← c.text_number-name.ensures, ← c.text_number-description.ensures, ← c.field_list_number-field_list.ensures, ← c.column_list_number-column_list.ensures, ← c.alias_list_number-alias_list.ensures, ← c.first.ensures, ← c.first-lists.ensures, ← c.first-2.ensures) c.first-3.ensures
