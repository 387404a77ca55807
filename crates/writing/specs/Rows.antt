-- The rows of the lent tables that are written. Words left over, and the dark marks of fields, are not looked at.
use Rattle.std.specs.Prelude.{ℕ, List, get_or}
use Rattle.rows.specs.Words.{field_width, column_width, alias_width, cluster_width, link_width, page_width}
use Rattle.rows.specs.Tables.{rows_in, row_words, field_row, column_row, alias_row, cluster_row, link_row, first_rows}
use Rattle.rows.specs.declared.FieldRow.{FieldRow}
use Rattle.rows.specs.declared.ColumnRow.{ColumnRow}
use Rattle.rows.specs.declared.AliasRow.{AliasRow}
use Rattle.footer.specs.Footer.{Footer}
use Rattle.writing.specs.declared.PageWords.{PageWords}

-- all rows of a table whose rows have so many words
abbrev pub all_rows : {A : Type 0} → (List ℕ → ℕ → A) → ℕ → List ℕ → List A
all_rows row width table = first_rows row table (rows_in width table)

-- row i of a table of pages, by its words: any number may stand for bit 30
abbrev pub page_words_of : List ℕ → PageWords
page_words_of ws = record { column = get_or ws 0 0; elements = get_or ws 1 0; bit = get_or ws 2 0; size = get_or ws 3 0; offset = get_or ws 4 0 }

abbrev pub page_words_at : List ℕ → ℕ → PageWords
page_words_at table i = page_words_of (row_words page_width table i)

-- the tables of a header, of a footer and of a page list

pub record HeaderRows : Type 0 where
  pub fields : List FieldRow
  pub columns : List ColumnRow
  pub aliases : List AliasRow

abbrev pub header_rows : List ℕ → List ℕ → List ℕ → HeaderRows
header_rows fields columns aliases =
    record {
      fields = all_rows field_row field_width fields;
      columns = all_rows column_row column_width columns;
      aliases = all_rows alias_row alias_width aliases;
    }

abbrev pub footer_rows : List ℕ → List ℕ → Footer
footer_rows clusters metadata = record { clusters = all_rows cluster_row cluster_width clusters; metadata = all_rows link_row link_width metadata }

abbrev pub page_rows_in : List ℕ → List PageWords
page_rows_in = all_rows page_words_at page_width
