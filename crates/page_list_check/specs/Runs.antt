-- The rows of each column in a table of pages.
use Rattle.std.specs.Prelude.{ℕ, suc, List, [], ◌∷◌, eqb, take}
use Rattle.numbers.specs.Choice.{pick}
use Rattle.writing.specs.Rows.{page_rows_in}
use Rattle.writing.specs.PageList.{of_column}
use Rattle.writing.specs.declared.PageWords.{PageWords}

-- how many rows stand in front that are of column c, before one of another column
unfoldable pub leading : ℕ → List PageWords → ℕ
leading c [] = 0
leading c (p ∷ ps) = pick (eqb p.column c) (suc (leading c ps)) 0

-- these rows
abbrev pub run : ℕ → List PageWords → List PageWords
run c rows = take (leading c rows) rows

-- the rows of column c of a table
abbrev pub column_at : List ℕ → ℕ → List PageWords
column_at table c = of_column c (page_rows_in table)
