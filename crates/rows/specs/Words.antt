-- The words of a row, and the row that some words are.
use Rattle.std.specs.Prelude.{ℕ, ◌+◌, ◌*◌, List, [], ◌∷◌, ◌++◌, Bool, true, false, get_or, eqb}
use Rattle.rows.specs.declared.Text.{Text}
use Rattle.rows.specs.declared.FieldHead.{FieldHead}
use Rattle.rows.specs.declared.FieldTexts.{FieldTexts}
use Rattle.rows.specs.declared.FieldRow.{FieldRow}
use Rattle.rows.specs.declared.ColumnRow.{ColumnRow}
use Rattle.rows.specs.declared.AliasRow.{AliasRow}
use Rattle.rows.specs.declared.Link.{Link}
use Rattle.rows.specs.declared.ClusterRow.{ClusterRow}
use Rattle.rows.specs.declared.PageRow.{PageRow}

-- how many words a row of each table has

abbrev pub field_width : ℕ
field_width = 15

abbrev pub column_width : ℕ
column_width = 4

abbrev pub alias_width : ℕ
alias_width = 2

abbrev pub cluster_width : ℕ
cluster_width = 5

abbrev pub link_width : ℕ
link_width = 2

abbrev pub page_width : ℕ
page_width = 5

-- stands in a cluster's row where its footer carries no checksum of the page list: no number of four bytes
abbrev pub no_checksum : ℕ
no_checksum = 4294967296

-- the most rows that each table can get; pages are counted over a whole page list

abbrev pub most_fields : ℕ
most_fields = 512

abbrev pub most_columns : ℕ
most_columns = 1024

abbrev pub most_aliases : ℕ
most_aliases = 256

abbrev pub most_clusters : ℕ
most_clusters = 1024

abbrev pub most_links : ℕ
most_links = 64

abbrev pub most_pages : ℕ
most_pages = 16384

-- the words of a table that has room for all of them

abbrev pub full_fields : ℕ
full_fields = field_width * most_fields

abbrev pub full_columns : ℕ
full_columns = column_width * most_columns

abbrev pub full_aliases : ℕ
full_aliases = alias_width * most_aliases

-- the words of a row

abbrev pub bit : Bool → ℕ
bit true = 1
bit false = 0

abbrev text_words : Text → List ℕ
text_words t = t.place ∷ t.len ∷ []

-- a row of the lent table of fields: the last of its words is the dark mark
unfoldable pub field_words : ℕ → FieldRow → List ℕ
field_words d r =
    (r.head.field_version ∷ r.head.type_version ∷ r.head.parent.0 ∷ r.head.role ∷ r.head.flags ∷ r.head.repetition ∷ [])
    ++ text_words r.texts.name ++ text_words r.texts.type_name ++ text_words r.texts.type_alias ++ text_words r.texts.description
    ++ (d ∷ [])

unfoldable pub column_words : ColumnRow → List ℕ
column_words c = c.column_type ∷ c.bits ∷ c.field.0 ∷ c.flags ∷ []

unfoldable pub alias_words : AliasRow → List ℕ
alias_words a = a.column.0 ∷ a.field.0 ∷ []

abbrev pub link_words : Link → List ℕ
link_words l = l.size ∷ l.offset ∷ []

abbrev pub cluster_words : ClusterRow → List ℕ
cluster_words c = c.first_entry ∷ c.entries ∷ c.page_list.size ∷ c.page_list.offset ∷ c.checksum ∷ []

abbrev pub page_words : PageRow → List ℕ
page_words p = p.column.0 ∷ p.elements ∷ bit p.checksum ∷ p.size ∷ p.offset ∷ []

-- the row that some words are: zeros where they are none

abbrev pub text_of : List ℕ → ℕ → Text
text_of ws j = record { place = get_or ws j 0; len = get_or ws (j + 1) 0 }

abbrev pub head_of : List ℕ → FieldHead
head_of ws =
    record { field_version = get_or ws 0 0; type_version = get_or ws 1 0; parent = record { 0 = get_or ws 2 0 }; role = get_or ws 3 0; flags = get_or ws 4 0; repetition = get_or ws 5 0 }

abbrev pub texts_of : List ℕ → FieldTexts
texts_of ws = record { name = text_of ws 6; type_name = text_of ws 8; type_alias = text_of ws 10; description = text_of ws 12 }

abbrev pub field_of : List ℕ → FieldRow
field_of ws = record { head = head_of ws; texts = texts_of ws }

abbrev pub dark_of : List ℕ → ℕ
dark_of ws = get_or ws 14 0

abbrev pub column_of : List ℕ → ColumnRow
column_of ws = record { column_type = get_or ws 0 0; bits = get_or ws 1 0; field = record { 0 = get_or ws 2 0 }; flags = get_or ws 3 0 }

abbrev pub alias_of : List ℕ → AliasRow
alias_of ws = record { column = record { 0 = get_or ws 0 0 }; field = record { 0 = get_or ws 1 0 } }

abbrev pub link_of : List ℕ → Link
link_of ws = record { size = get_or ws 0 0; offset = get_or ws 1 0 }

abbrev pub cluster_of : List ℕ → ClusterRow
cluster_of ws =
    record { first_entry = get_or ws 0 0; entries = get_or ws 1 0; page_list = record { size = get_or ws 2 0; offset = get_or ws 3 0 }; checksum = get_or ws 4 0 }

abbrev pub page_of : List ℕ → PageRow
page_of ws =
    record { column = record { 0 = get_or ws 0 0 }; elements = get_or ws 1 0; checksum = eqb (get_or ws 2 0) 1; size = get_or ws 3 0; offset = get_or ws 4 0 }
