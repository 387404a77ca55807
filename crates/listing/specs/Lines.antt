-- The bytes of a listing.
use Rattle.std.specs.Prelude.{ℕ, ◌*◌, List, [], ◌++◌, map, Bool, get_or, replicate, eqb, ltb}
use Rattle.numbers.specs.Choice.{pick}
use Rattle.numbers.specs.Rows.{flat}
use Rattle.decimals.specs.Decimal.{text, decimal}
use Rattle.rows.specs.Words.{field_of}
use Rattle.rows.specs.declared.Text.{Text}
use Rattle.rows.specs.declared.FieldRow.{FieldRow}
use Rattle.parents.specs.Dark.{dark}
use Rattle.reader.specs.Text.{text_of}
use Rattle.header.specs.Header.{Lists}
use Rattle.header.specs.Tables.{parents_of}
use Rattle.listing.specs.Order.{Entry, order}

-- bytes below 32 and byte 127 print as a question mark
abbrev pub shown_byte : ℕ → ℕ
shown_byte b = pick (ltb b 32) 63 (pick (eqb b 127) 63 b)

abbrev pub shown : List ℕ → List ℕ
shown = map shown_byte

abbrev pub dark_word : Bool → List ℕ
dark_word d = pick d (text " dark") []

-- two spaces per level, the field's number, a space, its name, a space, its type name, and " dark" where it applies; then the line's end
unfoldable pub line : ℕ → ℕ → List ℕ → List ℕ → Bool → List ℕ
line level field name type d =
    shown (replicate (2 * level) 32 ++ decimal field ++ text " " ++ name ++ text " " ++ type ++ dark_word d) ++ text "\n"

-- the characters of a string that stands in an envelope
abbrev pub characters : List ℕ → Text → List ℕ
characters e t = text_of e t.place t.len

-- the line of an entry, by the rows and the dark marks of the fields
unfoldable pub entry_line : List ℕ → (ℕ → FieldRow) → (ℕ → Bool) → Entry → List ℕ
entry_line e row d x = line x.level x.field (characters e (row x.field).texts.name) (characters e (row x.field).texts.type_name) (d x.field)

-- a mark of 1 says that a field is dark
abbrev pub marked : List ℕ → ℕ → Bool
marked marks k = eqb (get_or marks k 0) 1

-- the row of field k of a header, and whether it is dark

abbrev pub row_in : Lists → ℕ → FieldRow
row_in l k = get_or l.fields k (field_of [])

abbrev pub dark_in : Lists → ℕ → Bool
dark_in l k = dark (parents_of l.fields) l.columns k

-- the whole listing of a header that stands in an envelope: a line for each field
unfoldable pub listing : List ℕ → Lists → List ℕ
listing e l = flat (entry_line e (row_in l) (dark_in l)) (order (parents_of l.fields))
