-- The records of a header, without their frames, and what stands before its lists.
use Rattle.std.specs.Prelude.{ℕ, ◌%◌, ◌/◌, List, Bool, true, length, get_or, ltb, eqb}
use Rattle.numbers.specs.Choice.{pick, both}
use Rattle.wire.specs.Reading.{Rule, ◌>>=◌, ◌>>◌, give, tested, unless, below, listed, number}
use Rattle.text.specs.Strings.{string}
use Rattle.envelope.specs.Features.{features}
use Rattle.column_type.specs.Types.{known, width_of}
use Rattle.records.specs.declared.HeaderTexts.{HeaderTexts}
use Rattle.rows.specs.declared.FieldHead.{FieldHead}
use Rattle.rows.specs.declared.FieldTexts.{FieldTexts}
use Rattle.rows.specs.declared.FieldRow.{FieldRow}
use Rattle.rows.specs.declared.ColumnRow.{ColumnRow}
use Rattle.rows.specs.declared.AliasRow.{AliasRow}

abbrev pub repetitive : ℕ → Bool
repetitive flags = eqb (flags % 2) 1

abbrev pub aliased : ℕ → Bool
aliased flags = eqb (flags / 2 % 2) 1

-- a field's repetition, which is there where its flags say so
unfoldable pub repetition : ℕ → Rule ℕ
repetition flags = pick (repetitive flags) (number 8) (give 0)

-- what a field's record has before its strings, where the header has n fields
unfoldable pub field_head : ℕ → Rule FieldHead
field_head n = do
  version ← number 4
  type_version ← number 4
  parent ← tested 4 (below n)
  role ← tested 2 (listed 4)
  flags ← tested 2 (listed 3)
  times ← repetition flags
  give (record { field_version = version; type_version = type_version; parent = record { 0 = parent }; role = role; flags = flags; repetition = times })

unfoldable pub field_texts : Rule FieldTexts
field_texts = do
  name ← string
  type_name ← string
  type_alias ← string
  description ← string
  give (record { name = name; type_name = type_name; type_alias = type_alias; description = description })

-- a field's content, where the header has n fields
unfoldable pub field : ℕ → Rule FieldRow
field n = do
  head ← field_head n
  texts ← field_texts
  give (record { head = head; texts = texts })

-- a verdict on a column's bits: those of its type, where that is known
abbrev pub sized : ℕ → ℕ → ℕ
sized type b = unless (pick (known type) (eqb b (width_of type)) true) 13 0

-- a column's content, where the header has n fields
unfoldable pub column : ℕ → Rule ColumnRow
column n = do
  type ← number 2
  bits ← tested 2 (sized type)
  field ← tested 4 (below n)
  flags ← tested 4 (listed 7)
  give (record { column_type = type; bits = bits; field = record { 0 = field }; flags = flags })

-- a verdict on an alias's field: below the count of fields, and one that has the alias flag; `flags` has the flags of each field
abbrev pub aliasable : List ℕ → ℕ → ℕ
aliasable flags f = unless (both (ltb f (length flags)) (aliased (get_or flags f 0))) 14 0

-- an alias's content: a physical column below the count, and a field that has the alias flag
unfoldable pub alias : List ℕ → ℕ → Rule AliasRow
alias flags columns = do
  c ← tested 4 (below columns)
  f ← tested 4 (aliasable flags)
  give (record { column = record { 0 = c }; field = record { 0 = f } })

-- feature words, name and description
unfoldable pub texts : Rule HeaderTexts
texts s = (do
  features (length s)
  name ← string
  description ← string
  give (record { name = name; description = description })) s
