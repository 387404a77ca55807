-- What the readers of a footer and of a page list take from a header.
use Rattle.std.specs.Prelude.{ℕ, ◌*◌, length, replicate, Ok, Err}
use Rattle.numbers.specs.Rows.{over}
use Rattle.rows.specs.Words.{most_fields, most_columns, column_width}
use Rattle.wire.specs.declared.Fault.{Fault}
use Rattle.wire.specs.Reading.{Step, found, refused}
use Rattle.header.specs.Header.{Header, flags_of}
use Rattle.header.specs.Tables.{parents_of, column_table}
use Rattle.header_schema.specs.declared.Schema.{Schema}

-- a refused header hands nothing on but its fault
unfoldable pub no_schema : Fault → Schema
no_schema fault =
    record { verdict = Err fault; checksum = 0; fields = 0; columns = 0; parents = replicate most_fields 0; flags = replicate most_fields 0; column_rows = replicate (column_width * most_columns) 0 }

-- the checksum, the counts, each field's parent and flags, and the row of each column
unfoldable pub schema_of : ℕ → Step Header → Schema
schema_of sum (found h p) =
    record {
      verdict = Ok tt;
      checksum = sum;
      fields = length h.lists.fields;
      columns = length h.lists.columns;
      parents = over (parents_of h.lists.fields) (replicate most_fields 0);
      flags = over (flags_of h.lists.fields) (replicate most_fields 0);
      column_rows = over (column_table h.lists) (replicate (column_width * most_columns) 0);
    }
schema_of sum (refused f) = no_schema f
