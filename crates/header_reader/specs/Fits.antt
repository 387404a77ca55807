-- What the writing of the lent tables asks for.
use Rattle.std.specs.Prelude.{ℕ, ◌*◌, ◌≤◌, ◌≡◌, Bool, true, List, length, replicate}
use Rattle.numbers.specs.Rows.{flat, over}
use Rattle.wire.specs.Reading.{Step, found, refused}
use Rattle.rows.specs.Words.{most_fields, field_width, column_width, alias_width, field_words}
use Rattle.header.specs.Header.{Lists, Header}
use Rattle.header.specs.Tables.{parents_of, column_table, alias_table, fitting}
use Rattle.header_payload.specs.declared.HeaderScan.{HeaderScan}

-- so many fields, columns and aliases are in the arrays of a scan, and lent tables of f, c and a words have room for their rows
pub record Fits (fields columns aliases column_words alias_words f c a : ℕ) : Type 0 where
  pub few : fields ≤ most_fields
  pub columns_there : column_width * columns ≤ column_words
  pub aliases_there : alias_width * aliases ≤ alias_words
  pub fields_fit : field_width * fields ≤ f
  pub columns_fit : column_width * columns ≤ c
  pub aliases_fit : alias_width * aliases ≤ a

-- the words of the arrays for a small header

abbrev pub small_fields : ℕ
small_fields = field_width * 28

abbrev pub small_columns : ℕ
small_columns = column_width * 40

abbrev pub small_aliases : ℕ
small_aliases = alias_width * 16

-- arrays of f, c and a words have room for the rows that a scan found
abbrev pub rows_there : ℕ → ℕ → ℕ → Step HeaderScan → Bool
rows_there f c a (found s p) = fitting f c a s.lists.fields s.lists.columns s.lists.aliases
rows_there f c a (refused g) = true

-- arrays that were zero have in front the parent of each field, and all rows of three lists
pub record Rows (l : Lists) (p r c a : List ℕ) : Type 0 where
  pub parents_are : p ≡ over (parents_of l.fields) (replicate most_fields 0)
  pub fields_are : r ≡ over (flat (field_words 0) l.fields) (replicate (length r) 0)
  pub columns_are : c ≡ over (column_table l) (replicate (length c) 0)
  pub aliases_are : a ≡ over (alias_table l) (replicate (length a) 0)

-- where a header is found, the arrays of its scan have its rows
pub record Scanned (x : Step Header) (p r c a : List ℕ) : Type 0 where
  pub holds : (h : Header) (q : ℕ) → x ≡ found h q → Rows h.lists p r c a
