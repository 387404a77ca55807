-- The pages of one column of an accepted page list, lent to the call on a column together with the file that they are in: what is left to refuse.
use Rattle.std.specs.Prelude.{ℕ, ◌≤◌, ◌<◌, List, [], ◌∷◌, map, true, false, ◌≡◌, length, get_or}
use Rattle.numbers.specs.Lists.{Each}
use Rattle.numbers.specs.Numbers.{bytes_for}
use Rattle.wire.specs.Reading.{found}
use Rattle.column_type.specs.Types.{known, width_of}
use Rattle.rows.specs.Tables.{rows_in, page_row}
use Rattle.rows.specs.declared.ColumnRow.{ColumnRow}
use Rattle.rows.specs.declared.PageRow.{PageRow}
use Rattle.header.specs.Header.{Header}
use Rattle.header.specs.Tables.{header_of}
use Rattle.column_pages.specs.ColumnPages.{bits_of}
use Rattle.page_list.specs.Tables.{page_list_beside, Answered}
use Rattle.tree.specs.Bytes.{Bytes}
use Rattle.page_rules.specs.Page.{readable, most_elements}
use Rattle.column_rules.specs.declared.ColumnPage.{ColumnPage}
use Rattle.column_rules.specs.Column.{accept_all, column_page_width, column_pages, most_column_pages, whole_column}
use Rattle.column_rules.specs.Statements.{AcceptsOr, elements_of}
use Rattle.std.specs.Prelude.{Ok}

-- What an accepted header and page list say of sizes.

-- a column of a known type has the bits of that type
abbrev pub BitsDue : ColumnRow → Type 0
BitsDue c = known c.column_type ≡ true → c.bits ≡ width_of c.column_type

-- every column of an accepted header is one of these
unfoldable pub ColumnBitsDue : Type 0
ColumnBitsDue = (e : List ℕ) (h : Header) (q : ℕ) → Bytes e → header_of e ≡ found h q → Each BitsDue h.lists.columns

-- a page has the size that its elements have, where the elements of each column have these bits
abbrev pub SizeDue : List ℕ → PageRow → Type 0
SizeDue bits p = p.size ≡ bytes_for p.elements (get_or bits p.column.0 0)

-- every row that an accepting call leaves in the lent table is of such a page
unfoldable pub PageSizesDue : Type 0
PageSizesDue =
    (e l : List ℕ) (entries file : ℕ) (p₀ p : List ℕ) (n : ℕ) → Bytes l → Answered (page_list_beside e l entries file) p₀ p (Ok n)
    → (h : Header) (q : ℕ) → header_of e ≡ found h q
    → (i : ℕ) → i < n → SizeDue (bits_of h.lists.columns) (page_row p i)

-- Pages of a page list as pages of a column.

abbrev pub as_column_page : PageRow → ColumnPage
as_column_page p = record { offset = p.offset; size = p.size; elements = p.elements; checksum = p.checksum }

-- a page of column c among the first n rows of a page list's table
pub record Listed (c : ℕ) (pages : List ℕ) (n : ℕ) (p : ColumnPage) : Type 0 where
  pub row : ℕ
  pub there : row < n
  pub of_column : (page_row pages row).column.0 ≡ c
  pub is : p ≡ as_column_page (page_row pages row)

-- the type of column c of a header, and 0, which is no type, where there is no such column
abbrev pub type_in : Header → ℕ → ℕ
type_in h c = get_or (map (λ (r : ColumnRow). r.column_type) h.lists.columns) c 0

-- A call of type t, with a part of a file and a table of pages, on pages that a page list has.
pub record ListedCall (t : ℕ) (file table : List ℕ) : Type 0 where
  -- a header that was read
  pub header : List ℕ
  pub header_bytes : Bytes header
  pub tables : Header
  pub place : ℕ
  pub is_read : header_of header ≡ found tables place
  -- a page list that was accepted beside it, with the table of pages that was lent and what it then had
  pub list : List ℕ
  pub list_bytes : Bytes list
  pub entries : ℕ
  pub told : ℕ
  pub before : List ℕ
  pub pages : List ℕ
  pub count : ℕ
  pub accepted : Answered (page_list_beside header list entries told) before pages (Ok count)
  -- the part of the file has as many bytes as the reader was told that the file has, or more
  pub long : told ≤ length file
  -- the type is that of a column, and its pages are read
  pub column : ℕ
  pub is_type : t ≡ type_in tables column
  pub is_readable : readable t ≡ true
  -- the pages are any of that column, in any order
  pub few : rows_in column_page_width table ≤ most_column_pages
  pub listed : Each (Listed column pages count) (column_pages table)

-- the numbers that are left: too many elements, a checksum that is not right, unused bits that are set, no room
abbrev pub in_listed : List ℕ
in_listed = 10 ∷ 22 ∷ 24 ∷ 20 ∷ []

-- no page is outside the file, none has another length than its elements have, and the type is read: 18, 21 and 23 are not given
unfoldable pub ListedColumns : Type 0
ListedColumns =
    (t : ℕ) (file table old : List ℕ) → ListedCall t file table
    → AcceptsOr in_listed (rows_in column_page_width table) (whole_column t file table old)

-- each page has no more elements than a call takes, and so many lent words have room for all
pub record Roomy (ps : List ColumnPage) (words : ℕ) : Type 0 where
  pub few : Each (λ p. p.elements ≤ most_elements) ps
  pub room : elements_of ps ≤ words

-- then only the bytes of a page are left to refuse: its checksum, and the unused bits of a Bit page
unfoldable pub OnlyBytesLeft : Type 0
OnlyBytesLeft =
    (t : ℕ) (file table old : List ℕ) → ListedCall t file table → Roomy (column_pages table) (length old)
    → AcceptsOr (22 ∷ 24 ∷ []) (rows_in column_page_width table) (whole_column t file table old)

-- and where the pages have neither, nothing is left: the call accepts whatever their bytes are
unfoldable pub NothingLeft : Type 0
NothingLeft =
    (t : ℕ) (file table old : List ℕ) → ListedCall t file table → Roomy (column_pages table) (length old)
    → Each (λ p. p.checksum ≡ false) (column_pages table) → (t ≡ 6 → ⊥)
    → (whole_column t file table old).outcome ≡ accept_all (rows_in column_page_width table)
