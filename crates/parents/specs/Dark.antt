-- The fields that are dark.
use Rattle.std.specs.Prelude.{ℕ, List, [], ◌∷◌, Bool, true, false, not, ◌⊎◌, ◌≡◌, length, take, ltb}
use Rattle.numbers.specs.Choice.{pick, both}
use Rattle.column_type.specs.Types.{known}
use Rattle.rows.specs.Words.{bit}
use Rattle.rows.specs.declared.ColumnRow.{ColumnRow}
use Rattle.parents.specs.Parents.{inside, is_above, Above}

-- the column is of unknown type, and hangs on the field or on one below it
abbrev pub darkens : List ℕ → ColumnRow → ℕ → Bool
darkens parents c f = both (not (known c.column_type)) (is_above parents (length parents) f c.field.0)

-- a column of unknown type hangs on the field or on one below it
unfoldable pub dark : List ℕ → List ColumnRow → ℕ → Bool
dark parents [] f = false
dark parents (c ∷ cs) f = pick (darkens parents c f) true (dark parents cs f)

-- one of the columns is of unknown type, and hangs on the field or on one below it: the same without a bound on the moves
abbrev pub UnknownBelow : List ℕ → List ColumnRow → ℕ → Type 0
UnknownBelow parents [] f = ⊥
UnknownBelow parents (c ∷ cs) f = ((known c.column_type ≡ false) × Above parents f c.field.0) ⊎ UnknownBelow parents cs f

-- the column hangs on one of n fields, and is of unknown type
abbrev pub unknown_on : ℕ → ColumnRow → Bool
unknown_on n c = both (not (known c.column_type)) (ltb c.field.0 n)

-- the columns that hang on one of n fields
unfoldable pub hanging : ℕ → List ColumnRow → List ColumnRow
hanging n [] = []
hanging n (c ∷ cs) = pick (ltb c.field.0 n) (c ∷ hanging n cs) (hanging n cs)

-- the dark mark of field f, for the first n of some parents; 0 where one is none of the n fields
unfoldable pub dark_mark : List ℕ → ℕ → List ColumnRow → ℕ → ℕ
dark_mark parents n cs f = pick (inside parents n) (bit (dark (take n parents) (hanging n cs) f)) 0
