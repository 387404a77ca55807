-- What the totals tell: none is at fault, or which is the lowest that is.
use Rattle.std.specs.Prelude.{ℕ, ◌<◌, List, false, ◌≡◌, length, get_or, Some, None}
use Rattle.rows.specs.declared.ColumnRow.{ColumnRow}
use Rattle.totals.specs.Totals.{field_agrees, totals}

-- field i is one of the fields, and its totals do not agree
pub record AtFault (entries : ℕ) (cs : List ColumnRow) (sums parents flags : List ℕ) (i : ℕ) : Type 0 where
  pub listed : (i < length parents) × (i < length flags)
  pub differs : field_agrees entries cs sums i (get_or parents i 0) (get_or flags i 0) ≡ false

-- they agree exactly where no field is at fault
pub record AgreeTells : Type 0 where
  pub none : (entries : ℕ) (cs : List ColumnRow) (sums parents flags : List ℕ) → totals entries cs sums 0 parents flags ≡ None
      → (i : ℕ) → AtFault entries cs sums parents flags i → ⊥
  pub agree : (entries : ℕ) (cs : List ColumnRow) (sums parents flags : List ℕ) → ((i : ℕ) → AtFault entries cs sums parents flags i → ⊥)
      → totals entries cs sums 0 parents flags ≡ None

-- a field that is named is at fault, and no lower one is
unfoldable pub LowestTells : Type 0
LowestTells = (entries : ℕ) (cs : List ColumnRow) (sums parents flags : List ℕ) (f : ℕ) → totals entries cs sums 0 parents flags ≡ Some (record { 0 = f })
    → AtFault entries cs sums parents flags f × ((i : ℕ) → i < f → AtFault entries cs sums parents flags i → ⊥)
