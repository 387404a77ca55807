-- The lines of the entries of a table, by what each says.
use Rattle.std.specs.Prelude.{ℕ, List}
use Rattle.numbers.specs.Rows.{flat}
use Rattle.rows.specs.Tables.{field_row}
use Rattle.listing.specs.Order.{Entry}
use Rattle.listing.specs.Entries.{entries_in}
use Rattle.listing.specs.Lines.{line, characters, entry_line, marked}
use Rattle.listing_lines.specs.declared.line.Line.{Line}

-- what the line of an entry says, by the rows and the dark marks of the fields
unfoldable pub line_of : List ℕ → List ℕ → Entry → Line
line_of rows marks x =
    record {
      level = x.level;
      field = x.field;
      name = (field_row rows x.field).texts.name;
      type_name = (field_row rows x.field).texts.type_name;
      dark = marked marks x.field;
    }

-- its bytes, where the names stand in an envelope
unfoldable pub line_bytes : List ℕ → Line → List ℕ
line_bytes e l = line l.level l.field (characters e l.name) (characters e l.type_name) l.dark

-- the lines of all entries of a table, one after the other
abbrev pub lines_in : List ℕ → List ℕ → List ℕ → List ℕ → List ℕ
lines_in e rows marks entries = flat (entry_line e (field_row rows) (marked marks)) (entries_in entries)
