-- What the scan of a list leaves in the tables that it is lent.
use Rattle.std.specs.Prelude.{ℕ, suc, ◌*◌, ◌≡◌, List, [], ◌∷◌}
use Rattle.numbers.specs.Rows.{put, over}
use Rattle.wire.specs.Reading.{Step, found}
use Rattle.rows.specs.Words.{field_width, column_width, alias_width, field_words, column_words, alias_words}
use Rattle.rows.specs.declared.FieldRow.{FieldRow}
use Rattle.rows.specs.declared.ColumnRow.{ColumnRow}
use Rattle.rows.specs.declared.AliasRow.{AliasRow}
use Rattle.header.specs.Header.{flags_of}
use Rattle.header.specs.Tables.{parents_of}

-- rows of so many words each, written into a table from row i on, each where there is room for it
unfoldable pub laid : {A : Type 0} → ℕ → (A → List ℕ) → ℕ → List A → List ℕ → List ℕ
laid width words i [] table = table
laid width words i (a ∷ rest) table = laid width words (suc i) rest (put table (width * i) (words a))

-- what a scan makes of each table: the parent and the flags of each field in front, and the rows of fields, which have no dark mark
-- yet, of columns and of aliases

abbrev pub lay_parents : List FieldRow → List ℕ → List ℕ
lay_parents fields = over (parents_of fields)

abbrev pub lay_flags : List FieldRow → List ℕ → List ℕ
lay_flags fields = over (flags_of fields)

abbrev pub lay_fields : List FieldRow → List ℕ → List ℕ
lay_fields = laid field_width (field_words 0) 0

abbrev pub lay_columns : List ColumnRow → List ℕ → List ℕ
lay_columns = laid column_width column_words 0

abbrev pub lay_aliases : List AliasRow → List ℕ → List ℕ
lay_aliases = laid alias_width alias_words 0

-- where something is found, it is laid over what a table held
pub record Kept {A : Type 0} (lay : A → List ℕ → List ℕ) (x : Step A) (old new : List ℕ) : Type 0 where
  pub holds : (a : A) (p : ℕ) → x ≡ found a p → new ≡ lay a old
