-- The lists of a header, each after the step before it.
use Rattle.std.specs.Prelude.{ℕ, List, Bool, take}
use Rattle.wire.specs.Reading.{Step, found, refused, after}
use Rattle.records.specs.declared.HeaderTexts.{HeaderTexts}
use Rattle.rows.specs.declared.FieldRow.{FieldRow}
use Rattle.rows.specs.declared.ColumnRow.{ColumnRow}
use Rattle.rows.specs.declared.AliasRow.{AliasRow}
use Rattle.header.specs.Header.{field_list, column_list, alias_list}

-- the number that a step found, 0 where it is refused
abbrev pub number_in : Step ℕ → ℕ
number_in (found n p) = n
number_in (refused f) = 0

-- each list after the step before it: the texts, the count of fields, the count of columns

abbrev pub fields_next : Bool → List ℕ → Step HeaderTexts → Step (List FieldRow)
fields_next strict = after (λ _. field_list strict)

abbrev pub columns_next : Bool → List ℕ → Step ℕ → Step (List ColumnRow)
columns_next strict = after (column_list strict)

abbrev pub aliases_next : Bool → List ℕ → List ℕ → Step ℕ → Step ℕ → Step (List AliasRow)
aliases_next strict s flags fields = after (alias_list strict (take (number_in fields) flags)) s
