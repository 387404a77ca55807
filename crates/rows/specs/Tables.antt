-- The rows of a lent table, by number.
use Rattle.std.specs.Prelude.{ℕ, zero, suc, ◌*◌, ◌/◌, List, [], ◌∷◌, ◌++◌, length, take, drop, ltb}
use Rattle.numbers.specs.Choice.{pick}
use Rattle.rows.specs.Words.{field_width, column_width, alias_width, cluster_width, link_width, page_width, field_of, dark_of, column_of, alias_of, cluster_of, link_of, page_of}
use Rattle.rows.specs.declared.FieldRow.{FieldRow}
use Rattle.rows.specs.declared.ColumnRow.{ColumnRow}
use Rattle.rows.specs.declared.AliasRow.{AliasRow}
use Rattle.rows.specs.declared.Link.{Link}
use Rattle.rows.specs.declared.ClusterRow.{ClusterRow}
use Rattle.rows.specs.declared.PageRow.{PageRow}

-- how many whole rows of so many words a table has
abbrev pub rows_in : ℕ → List ℕ → ℕ
rows_in width table = length table / width

-- the words of row i of a table, none where it has no such row whole
unfoldable pub row_words : ℕ → List ℕ → ℕ → List ℕ
row_words width table i = pick (ltb i (rows_in width table)) (take width (drop (width * i) table)) []

-- row i of each table, zeros where it has no such row whole

abbrev pub field_row : List ℕ → ℕ → FieldRow
field_row table i = field_of (row_words field_width table i)

abbrev pub dark_mark : List ℕ → ℕ → ℕ
dark_mark table i = dark_of (row_words field_width table i)

abbrev pub column_row : List ℕ → ℕ → ColumnRow
column_row table i = column_of (row_words column_width table i)

abbrev pub alias_row : List ℕ → ℕ → AliasRow
alias_row table i = alias_of (row_words alias_width table i)

abbrev pub link_row : List ℕ → ℕ → Link
link_row table i = link_of (row_words link_width table i)

abbrev pub cluster_row : List ℕ → ℕ → ClusterRow
cluster_row table i = cluster_of (row_words cluster_width table i)

abbrev pub page_row : List ℕ → ℕ → PageRow
page_row table i = page_of (row_words page_width table i)

-- the first n rows of a table
unfoldable pub first_rows : {A : Type 0} → (List ℕ → ℕ → A) → List ℕ → ℕ → List A
first_rows row table zero = []
first_rows row table (suc n) = first_rows row table n ++ (row table n ∷ [])

-- the first n columns of a table of columns
abbrev pub columns_in : List ℕ → ℕ → List ColumnRow
columns_in = first_rows column_row
