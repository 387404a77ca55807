-- What an accepted header says of its strings: each is text, the encodings of Unicode scalar values one after the other.
use Rattle.std.specs.Prelude.{ℕ, ◌<◌, List}
use Rattle.utf8.specs.Scalars.{Text}
use Rattle.rows.specs.Tables.{field_row}
use Rattle.rows.specs.declared.FieldTexts.{FieldTexts}
use Rattle.header.specs.Tables.{header_of, Answered}
use Rattle.header.specs.declared.HeaderTables.{HeaderTables}
use Rattle.tree.specs.Bytes.{Bytes}
use Rattle.tree.specs.Shape.{chars}
use Rattle.std.specs.Prelude.{Ok}

-- the strings of a field's row, which stand in the envelope e
pub record FieldText (e : List ℕ) (t : FieldTexts) : Type 0 where
  pub name : Text (chars e t.name)
  pub type_name : Text (chars e t.type_name)
  pub type_alias : Text (chars e t.type_alias)
  pub description : Text (chars e t.description)

-- an accepting call for e answered x and left the table f of fields
pub record HeaderText (e f : List ℕ) (x : HeaderTables) : Type 0 where
  pub name : Text (chars e x.texts.name)
  pub description : Text (chars e x.texts.description)
  pub fields : (i : ℕ) → i < x.fields → FieldText e (field_row f i).texts

unfoldable pub StringsAreText : Type 0
StringsAreText =
    (e f₀ f c₀ c a₀ a : List ℕ) (x : HeaderTables) → Bytes e → Answered (header_of e) f₀ f c₀ c a₀ a (Ok x) → HeaderText e f x
