-- A table that starts with the words of some rows gives these rows back.
use Rattle.std.specs.Prelude.{ℕ, ◌<◌, ◌≡◌, length, get_or}
use mathlib.Core.List.{List, ◌++◌, flatten}
use Rattle.numbers.specs.Rows.{flat, flat_by}
use Rattle.rows.specs.Words.{field_words, column_words, alias_words, cluster_words, link_words, page_words}
use Rattle.rows.specs.Tables.{field_row, dark_mark, column_row, alias_row, cluster_row, link_row, page_row, first_rows}
use Rattle.rows.specs.declared.FieldRow.{FieldRow}
use Rattle.rows.specs.declared.PageRow.{PageRow}

-- row i is row i of them (or, of no rows, whatever row), and as many first rows as they are, are they
pub record GivesBack {A : Type 0} (words : A → List ℕ) (row : List ℕ → ℕ → A) : Type 0 where
  pub each : (rows : List A) (rest : List ℕ) (other : A) (i : ℕ) → i < length rows → row (flat words rows ++ rest) i ≡ get_or rows i other
  pub all : (rows : List A) (rest : List ℕ) → first_rows row (flat words rows ++ rest) (length rows) ≡ rows

abbrev pub ColumnsBack : Type 0
ColumnsBack = GivesBack column_words column_row

abbrev pub AliasesBack : Type 0
AliasesBack = GivesBack alias_words alias_row

abbrev pub LinksBack : Type 0
LinksBack = GivesBack link_words link_row

abbrev pub ClustersBack : Type 0
ClustersBack = GivesBack cluster_words cluster_row

abbrev pub PagesBack : Type 0
PagesBack = GivesBack page_words page_row

-- the pages of lists of pages, one list after the other, are given back as the pages of one list
pub record PageListsBack : Type 0 where
  pub each : (lists : List (List PageRow)) (rest : List ℕ) (other : PageRow) (i : ℕ) → i < length (flatten lists)
      → page_row (flat (flat page_words) lists ++ rest) i ≡ get_or (flatten lists) i other
  pub all : (lists : List (List PageRow)) (rest : List ℕ) → first_rows page_row (flat (flat page_words) lists ++ rest) (length (flatten lists)) ≡ flatten lists

-- fields, whose rows have a mark beside
pub record FieldsBack : Type 0 where
  pub each : (mark : ℕ → ℕ) (rows : List FieldRow) (rest : List ℕ) (other : FieldRow) (i : ℕ) → i < length rows
      → (field_row (flat_by (λ i. field_words (mark i)) 0 rows ++ rest) i ≡ get_or rows i other) × (dark_mark (flat_by (λ i. field_words (mark i)) 0 rows ++ rest) i ≡ mark i)
  pub all : (mark : ℕ → ℕ) (rows : List FieldRow) (rest : List ℕ) → first_rows field_row (flat_by (λ i. field_words (mark i)) 0 rows ++ rest) (length rows) ≡ rows
