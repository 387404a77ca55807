-- The totals: of each top-level field with neither flag, the elements of its first column against the cluster's entries.
use Rattle.std.specs.Prelude.{ℕ, suc, List, [], ◌∷◌, Bool, true, eqb, Option, Some, None}
use Rattle.numbers.specs.Choice.{pick, both}
use Rattle.column_type.specs.Types.{known}
use Rattle.rows.specs.declared.ColumnRow.{ColumnRow}
use Rattle.rows.specs.declared.FieldNumber.{FieldNumber}

-- a column's elements are as many as the cluster has entries, where its type is known
abbrev pub agrees : ℕ → ℕ → ℕ → Bool
agrees entries type elements = pick (known type) (eqb elements entries) true

-- the totals agree for the first column on field f, if there is one; each column has so many elements
unfoldable pub total_of : ℕ → ℕ → List ColumnRow → List ℕ → Bool
total_of entries f [] sums = true
total_of entries f (c ∷ cs) [] = true
total_of entries f (c ∷ cs) (n ∷ sums) = pick (eqb c.field.0 f) (agrees entries c.column_type n) (total_of entries f cs sums)

-- field i, with such a parent and flags, is a top-level field with neither flag
abbrev pub counts : ℕ → ℕ → ℕ → Bool
counts i parent flags = both (eqb parent i) (eqb flags 0)

-- the totals agree for field i, with such a parent and flags
abbrev pub field_agrees : ℕ → List ColumnRow → List ℕ → ℕ → ℕ → ℕ → Bool
field_agrees entries cs sums i parent flags = pick (counts i parent flags) (total_of entries i cs sums) true

-- the lowest field, from number i on, whose totals do not agree, where the fields have these parents and flags
unfoldable pub totals : ℕ → List ColumnRow → List ℕ → ℕ → List ℕ → List ℕ → Option FieldNumber
totals entries cs sums i [] flags = None
totals entries cs sums i (p ∷ parents) [] = None
totals entries cs sums i (p ∷ parents) (w ∷ flags) =
    pick (field_agrees entries cs sums i p w) (totals entries cs sums (suc i) parents flags) (Some (record { 0 = i }))
