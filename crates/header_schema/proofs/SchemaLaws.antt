-- What a header hands on to the readers of the other envelopes.
use Prim.Native.Nat.{ℕ, ◌*◌, ◌≤◌, ◌<◌}
use mathlib.Core.Path.{◌≡◌, refl, sym, ap, ◌∙◌}
use mathlib.Core.List.{List}
use native.Mathlib.Omega.{arith}
use lib.ListN.{length, get_or, take, replicate, length-map}
use lib.Seq.{take_at}
use Rattle.numbers.specs.Rows.{over}
use Rattle.wire.specs.declared.Fault.{Fault}
use Rattle.wire.specs.Reading.{Step, found, refused}
use Rattle.envelope.specs.Envelope.{checksum_of}
use Rattle.rows.specs.Words.{most_fields, most_columns, column_width}
use Rattle.rows.specs.Tables.{column_row}
use Rattle.rows.specs.declared.FieldRow.{FieldRow}
use Rattle.rows.specs.declared.ColumnRow.{ColumnRow}
use Rattle.rows.proofs.RowLaws.{columns_back}
use Rattle.records.proofs.Bounds.{Bytes}
use Rattle.header.specs.Header.{Header, flags_of}
use Rattle.header.specs.Tables.{header_of, parents_of, column_table}
use Rattle.header.proofs.HeaderLaws.{fields_few, columns_few, bits_small}
use Rattle.header_schema.specs.Schema.{schema_of, no_schema}
use Rattle.header_schema.specs.declared.Schema.{Schema}
use Rattle.std.specs.Prelude.{Ok, Err}

-- the array's first words are the fields' parents and flags
module _ (rest : List ℕ) (rows : List FieldRow) where
  pub parents_front : take (length rows) (over (parents_of rows) rest) ≡ parents_of rows
  parents_front = take_at (parents_of rows) _ (length rows) (length-map rows (λ (r : FieldRow). r.head.parent.0))

  pub flags_front : take (length rows) (over (flags_of rows) rest) ≡ flags_of rows
  flags_front = take_at (flags_of rows) _ (length rows) (length-map rows (λ (r : FieldRow). r.head.flags))

-- what the schema of an envelope says

says_found : (sum : ℕ) (x : Step Header) → (schema_of sum x).verdict ≡ Ok tt → (h : Header) × (p : ℕ) × (x ≡ found h p)
unfolding schema_of no_schema
says_found sum (found h p) e = (h, p, refl)
says_found sum (refused g) e = let z : ◌≡◌ {A = ℕ} 0 1 = cc in absurd (omega arith)

says_refused : (sum : ℕ) (x : Step Header) {g : Fault} → (schema_of sum x).verdict ≡ Err g → x ≡ refused g
unfolding schema_of no_schema
says_refused sum (found h p) e = let z : ◌≡◌ {A = ℕ} 0 1 = cc in absurd (omega arith)
says_refused sum (refused f) {g} e = let same : f ≡ g = cc in ap refused same

abbrev no_column : ColumnRow
no_column = record { column_type = 0; bits = 0; field = record { 0 = 0 }; flags = 0 }

module _ (e : List ℕ) {r : Schema} (is : r ≡ schema_of (checksum_of e) (header_of e)) where
  pub header_accepted : r.verdict ≡ Ok tt → (h : Header) × (p : ℕ) × (header_of e ≡ found h p)
  header_accepted v = says_found (checksum_of e) (header_of e) (sym (ap (λ (s : Schema). s.verdict) is) ∙ v)

  pub header_refuses : {g : Fault} → r.verdict ≡ Err g → header_of e ≡ refused g
  header_refuses v = says_refused (checksum_of e) (header_of e) (sym (ap (λ (s : Schema). s.verdict) is) ∙ v)

  module _ {h : Header} {p : ℕ} (w : header_of e ≡ found h p) where
    schema_is : r ≡ schema_of (checksum_of e) (found h p)
    schema_is = is ∙ ap (schema_of (checksum_of e)) w

    pub its_checksum : r.checksum ≡ checksum_of e
    unfolding schema_of
    its_checksum = ap (λ (s : Schema). s.checksum) schema_is

    pub its_fields : r.fields ≡ length h.lists.fields
    unfolding schema_of
    its_fields = ap (λ (s : Schema). s.fields) schema_is

    pub its_columns : r.columns ≡ length h.lists.columns
    unfolding schema_of
    its_columns = ap (λ (s : Schema). s.columns) schema_is

    pub its_parents : r.parents ≡ over (parents_of h.lists.fields) (replicate most_fields 0)
    unfolding schema_of
    its_parents = ap (λ (s : Schema). s.parents) schema_is

    pub its_flags : r.flags ≡ over (flags_of h.lists.fields) (replicate most_fields 0)
    unfolding schema_of
    its_flags = ap (λ (s : Schema). s.flags) schema_is

    pub its_column_rows : r.column_rows ≡ over (column_table h.lists) (replicate (column_width * most_columns) 0)
    unfolding schema_of
    its_column_rows = ap (λ (s : Schema). s.column_rows) schema_is

    -- the bounds that code over the schema needs

    pub schema_few : (r.fields ≤ most_fields) × (r.columns ≤ most_columns)
    schema_few = let n = its_fields in let k = its_columns in let a = fields_few e w in let b = columns_few e w in (omega arith, omega arith)

    module _ (i : ℕ) (l : i < r.columns) where
      inside_columns : i < length h.lists.columns
      inside_columns = let n = its_columns in omega arith

      its_column : column_row r.column_rows i ≡ get_or h.lists.columns i no_column
      its_column = ap (λ (t : List ℕ). column_row t i) its_column_rows ∙ columns_back.each h.lists.columns _ no_column i inside_columns

      pub schema_column_bits : Bytes e → (column_row r.column_rows i).bits < 65536
      schema_column_bits b = let f = ap (λ (c : ColumnRow). c.bits) its_column in let s = bits_small e w b no_column i inside_columns in omega arith
