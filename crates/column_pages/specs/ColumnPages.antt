-- The page list's payload: a list with one item per column, each a list of pages.
use Rattle.std.specs.Prelude.{ℕ, ◌+◌, List, [], ◌∷◌, map, Bool, length, get_or, leb, eqb}
use Rattle.wire.specs.Reading.{Rule, unless}
use Rattle.frames.specs.Frames.{list_of}
use Rattle.rows.specs.Words.{most_columns}
use Rattle.rows.specs.declared.ColumnRow.{ColumnRow}
use Rattle.rows.specs.declared.PageRow.{PageRow}
use Rattle.pages.specs.Pages.{pages}

-- how many pages there are
unfoldable pub pages_of : List (List PageRow) → ℕ
pages_of [] = 0
pages_of (ps ∷ rest) = length ps + pages_of rest

-- the bits of each column's elements
abbrev pub bits_of : List ColumnRow → List ℕ
bits_of = map (λ (r : ColumnRow). r.bits)

-- a verdict on the count of columns: above 1,024 is refused 10, any other wrong one 19
abbrev pub per_column : ℕ → ℕ → ℕ
per_column columns n = unless (leb n most_columns) 10 (unless (eqb n columns) 19 0)

-- the pages of the next column, after the columns before, where the elements of each column have these bits
abbrev pub pages_after : Bool → ℕ → List ℕ → List (List PageRow) → Rule (List PageRow)
pages_after strict file bits before = pages strict file (length before) (get_or bits (length before) 0) (pages_of before)

-- one item per column, where the elements of each column have these bits
unfoldable pub payload : ℕ → List ℕ → Bool → Rule (List (List PageRow))
payload file bits strict = list_of strict (per_column (length bits)) (λ _. pages_after strict file bits)
