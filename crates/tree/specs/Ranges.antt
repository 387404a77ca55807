-- What an accepted page list says of the file: each of its pages is inside it, with the check bytes behind the page where it has them.
use Rattle.std.specs.Prelude.{ℕ, ◌+◌, ◌≤◌, ◌<◌, List}
use Rattle.numbers.specs.Numbers.{trailer}
use Rattle.rows.specs.Tables.{page_row}
use Rattle.rows.specs.declared.PageRow.{PageRow}
use Rattle.page_list.specs.Tables.{page_list_beside, Answered}
use Rattle.tree.specs.Bytes.{Bytes}
use Rattle.std.specs.Prelude.{Ok}

-- a page and what is behind it are inside a file of so many bytes
abbrev pub InsideFile : ℕ → PageRow → Type 0
InsideFile file p = p.offset + p.size + trailer p.checksum ≤ file

-- every row that an accepting call leaves in the lent table is of such a page
unfoldable pub PagesInsideFile : Type 0
PagesInsideFile =
    (e l : List ℕ) (entries file : ℕ) (p₀ p : List ℕ) (n : ℕ) → Bytes l → Answered (page_list_beside e l entries file) p₀ p (Ok n)
    → (i : ℕ) → i < n → InsideFile file (page_row p i)
