-- What the passes over all columns take, and what they leave.
use Rattle.std.specs.Prelude.{ℕ, ◌%◌, ◌^◌, List, [], map, Bool, replicate, Ok, Err}
use Rattle.numbers.specs.Rows.{over}
use Rattle.wire.specs.Reading.{Step, found, refused}
use Rattle.frames.specs.Frames.{items}
use Rattle.frames.specs.declared.ListHead.{ListHead}
use Rattle.rows.specs.Words.{most_columns}
use Rattle.rows.specs.Tables.{columns_in}
use Rattle.rows.specs.declared.ColumnRow.{ColumnRow}
use Rattle.rows.specs.declared.PageRow.{PageRow}
use Rattle.pages.specs.Pages.{elements_of}
use Rattle.column_pages.specs.ColumnPages.{pages_of, pages_after}
use Rattle.column_pages.specs.declared.Sums.{Sums}

-- the bits of the first n columns of a table of columns: numbers of 16 bits, as a column's record has them
abbrev pub bits_in : List ℕ → ℕ → List ℕ
bits_in table n = map (λ (r : ColumnRow). r.bits % 2 ^ 16) (columns_in table n)

-- the pages of each column in a list at `list`, whose head was read; `table` has a row for each column
abbrev pub column_items : List ℕ → Bool → ℕ → ListHead → List ℕ → ℕ → Step (List (List PageRow))
column_items s strict list h table file = items list (pages_after strict file (bits_in table h.count)) h.count [] s h.start

-- how many pages there are and the place after them, and how many elements each column has, or a refusal
abbrev pub sums_of : Step (List (List PageRow)) → Sums
sums_of (found pss p) = record { pages = Ok (pages_of pss, p); elements = over (map elements_of pss) (replicate most_columns 0) }
sums_of (refused f) = record { pages = Err f; elements = replicate most_columns 0 }
