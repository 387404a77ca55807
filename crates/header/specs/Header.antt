-- The header's payload: feature words, name, description, lists of fields, columns and aliases.
use Rattle.std.specs.Prelude.{ℕ, List, [], map, Bool, length}
use Rattle.wire.specs.Reading.{Step, Rule, ◌>>=◌, give, here}
use Rattle.frames.specs.Frames.{record_of, items, list_of, at_most}
use Rattle.frames.specs.declared.ListHead.{ListHead}
use Rattle.records.specs.Records.{field, column, alias, texts}
use Rattle.records.specs.declared.HeaderTexts.{HeaderTexts}
use Rattle.rows.specs.Words.{most_fields, most_columns, most_aliases}
use Rattle.rows.specs.declared.FieldRow.{FieldRow}
use Rattle.rows.specs.declared.ColumnRow.{ColumnRow}
use Rattle.rows.specs.declared.AliasRow.{AliasRow}

abbrev pub flags_of : List FieldRow → List ℕ
flags_of = map (λ (r : FieldRow). r.head.flags)

-- the items of a list at `list`, whose head was read

abbrev pub alias_items : List ℕ → Bool → ℕ → ListHead → List ℕ → ℕ → Step (List AliasRow)
alias_items s strict list h flags columns = items list (λ _. record_of strict (alias flags columns)) h.count [] s h.start

abbrev pub column_items : List ℕ → Bool → ℕ → ListHead → ℕ → Step (List ColumnRow)
column_items s strict list h fields = items list (λ _. record_of strict (column fields)) h.count [] s h.start

abbrev pub field_items : List ℕ → Bool → ℕ → ListHead → Step (List FieldRow)
field_items s strict list h = items list (λ _. record_of strict (field h.count)) h.count [] s h.start

-- the three lists

abbrev pub field_list : Bool → Rule (List FieldRow)
field_list strict = list_of strict (at_most most_fields) (λ n _. record_of strict (field n))

abbrev pub column_list : Bool → ℕ → Rule (List ColumnRow)
column_list strict fields = list_of strict (at_most most_columns) (λ _ _. record_of strict (column fields))

abbrev pub alias_list : Bool → List ℕ → ℕ → Rule (List AliasRow)
alias_list strict flags columns = list_of strict (at_most most_aliases) (λ _ _. record_of strict (alias flags columns))

-- what a header's three lists read, and where each stands
pub record Lists : Type 0 where
  pub fields_at : ℕ
  pub fields : List FieldRow
  pub columns_at : ℕ
  pub columns : List ColumnRow
  pub aliases_at : ℕ
  pub aliases : List AliasRow

-- the list of aliases, after the two others
unfoldable pub aliases_after : Bool → ℕ → List FieldRow → ℕ → List ColumnRow → Rule Lists
aliases_after strict fieldsPlace fields columnsPlace columns = do
  aliasesPlace ← here
  aliases ← alias_list strict (flags_of fields) (length columns)
  give (record { fields_at = fieldsPlace; fields = fields; columns_at = columnsPlace; columns = columns; aliases_at = aliasesPlace; aliases = aliases })

-- the lists of columns and aliases, after that of fields
unfoldable pub columns_after : Bool → ℕ → List FieldRow → Rule Lists
columns_after strict fieldsPlace fields = do
  columnsPlace ← here
  columns ← column_list strict (length fields)
  aliases_after strict fieldsPlace fields columnsPlace columns

unfoldable pub lists : Bool → Rule Lists
lists strict = do
  fieldsPlace ← here
  fields ← field_list strict
  columns_after strict fieldsPlace fields

-- what a header's payload reads
pub record Header : Type 0 where
  pub texts : HeaderTexts
  pub lists : Lists

unfoldable pub payload : Bool → Rule Header
payload strict = do
  t ← texts
  l ← lists strict
  give (record { texts = t; lists = l })
