-- The texts of a table of figures.
use Rattle.std.specs.Prelude.{ℕ, ◌-◌, ◌%◌, List, ◌++◌, length, replicate}
use Rattle.io.specs.Digits.{last_digits}
use Rattle.decimals.specs.Decimal.{text, decimal}
use Rattle.figure_table.specs.declared.FigureRow.{FigureRow}

-- digits on the right of so many places, after a space; where the places are too few they stand whole all the same
unfoldable pub cell : ℕ → List ℕ → List ℕ
cell places number = text " " ++ replicate (places - length number) 32 ++ number

-- a column type has two bytes: four hexadecimal digits
unfoldable pub type_text : ℕ → List ℕ
type_text n = text " 0x" ++ last_digits 16 4 (n % 65536)

-- a row, up to the name of its field
unfoldable pub row_text : FigureRow → List ℕ
row_text r =
    cell 6 (decimal r.column) ++ type_text r.column_type
    ++ cell 8 (decimal r.pages) ++ cell 15 (decimal r.elements) ++ cell 15 (decimal r.stored) ++ cell 9 (decimal r.checksums)
    ++ cell 5 (decimal r.field) ++ text " "
