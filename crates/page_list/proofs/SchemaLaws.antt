-- What the reader takes of a header that was accepted.
use Prim.Native.Nat.{ℕ, suc, ◌*◌, ◌%◌, ◌^◌, ◌≤◌, ◌<◌}
use mathlib.Core.Path.{◌≡◌, refl, sym, ap, subst, ◌∙◌}
use mathlib.Core.List.{List, [], ◌∷◌, map}
use native.Mathlib.Omega.{arith}
use lib.ListN.{length, get_or, take, replicate, length-map}
use lib.Seq.{length-take-le, take_all}
use Rattle.numbers.specs.Rows.{flat}
use Rattle.wire.specs.declared.Fault.{Fault}
use Rattle.wire.specs.Reading.{found, refused}
use Rattle.envelope.specs.Envelope.{envelope, checksum_of}
use Rattle.header.specs.Header.{Header, flags_of}
use Rattle.header.specs.Tables.{header_of, parents_of, column_table}
use Rattle.rows.specs.Tables.{column_row, columns_in}
use Rattle.rows.specs.Words.{most_fields, most_columns, column_width, column_words}
use Rattle.header.specs.Beside.{refusal, in_envelope}
use Rattle.header_schema.specs.Schema.{schema_of}
use Rattle.header_schema.specs.declared.Schema.{Schema}
use Rattle.rows.specs.declared.FieldRow.{FieldRow}
use Rattle.rows.specs.declared.ColumnRow.{ColumnRow}
use Rattle.records.proofs.Bounds.{Bytes}
use Rattle.rows.proofs.RowLaws.{columns_back}
use Rattle.header_schema.proofs.SchemaLaws.{its_fields, its_columns, its_parents, its_flags, its_column_rows, schema_few, schema_column_bits, parents_front, flags_front}
use Rattle.rows.proofs.FirstRows.{rows_length, row_at}
use Rattle.column_pages.specs.ColumnPages.{bits_of, payload}
use Rattle.column_pages.specs.Answers.{bits_in}
use Rattle.page_list.specs.PageList.{summed, page_list_of}
use Rattle.page_list.specs.Tables.{page_list_beside}
use Rattle.page_list.specs.Schema.{SchemaOf}
use Rattle.numbers.proofs.Parts.{over_length}

-- a page list beside a header that was read, and beside one that is refused
module _ (e list : List ℕ) (entries file : ℕ) where
  pub beside_found : {h : Header} {p : ℕ} → header_of e ≡ found h p → page_list_beside e list entries file ≡ in_envelope 3 (summed entries h.lists (envelope 1 (payload file (bits_of h.lists.columns)) list))
  unfolding page_list_beside page_list_of
  beside_found w = rw w

  pub header_refused_lem : {g : Fault} → header_of e ≡ refused g → page_list_beside e list entries file ≡ refusal 1 g
  unfolding page_list_beside
  header_refused_lem w = rw w

columns_long : (rows : List ColumnRow) → length (flat column_words rows) ≡ column_width * length rows
unfolding flat column_words
columns_long [] = refl
columns_long (r ∷ rows) = let e = columns_long rows in omega arith

-- bits that are numbers of 16 bits stay as they are
low_bits : (d : ColumnRow) (cs : List ColumnRow) → ((i : ℕ) → i < length cs → (get_or cs i d).bits < 2 ^ 16) → map (λ (r : ColumnRow). r.bits % 2 ^ 16) cs ≡ bits_of cs
low_bits d [] low = refl
low_bits d (c ∷ cs) low =
    let l = low 0 (omega arith) in
    let e : c.bits % 2 ^ 16 ≡ c.bits = omega arith in
    λ j. e j ∷ low_bits d cs (λ i h. low (suc i) (omega arith)) j

small_bits : (table : List ℕ) (n : ℕ) → ((i : ℕ) → i < n → (column_row table i).bits < 2 ^ 16) → bits_in table n ≡ bits_of (columns_in table n)
small_bits table n low =
    low_bits (column_row table 0) (columns_in table n) (λ i h.
    let k = rows_length column_row table n in
    subst (λ (r : ColumnRow). r.bits < 2 ^ 16) (sym (row_at column_row table n i (column_row table 0) (omega arith))) (low i (omega arith)))

module _ (e : List ℕ) {r : Schema} (is : r ≡ schema_of (checksum_of e) (header_of e)) {h : Header} {p : ℕ} (w : header_of e ≡ found h p) where
  pub schema_long : (length r.parents ≡ most_fields) × (length r.flags ≡ most_fields) × (length r.column_rows ≡ column_width * most_columns)
  schema_long =
      let few = schema_few e is w in
      let fields = its_fields e is w in
      let columns = its_columns e is w in
      let a = length-map h.lists.fields (λ (x : FieldRow). x.head.parent.0) in
      let b = length-map h.lists.fields (λ (x : FieldRow). x.head.flags) in
      let c = columns_long h.lists.columns in (
        ap length (its_parents e is w) ∙ over_length (parents_of h.lists.fields) (replicate most_fields 0) (omega arith),
        ap length (its_flags e is w) ∙ over_length (flags_of h.lists.fields) (replicate most_fields 0) (omega arith),
        ap length (its_column_rows e is w) ∙ over_length (column_table h.lists) (replicate (column_width * most_columns) 0) (omega arith),
      )

  -- the counts are those of the front of each array
  pub fronts : (r.fields ≤ length r.parents) × (r.fields ≤ length r.flags)
  fronts = let few = schema_few e is w in let long = schema_long in (omega arith, omega arith)

  pub schema_of_lem : Bytes e → SchemaOf h.lists (take r.fields r.parents) (take r.fields r.flags) r.column_rows r.columns
  schema_of_lem bytes =
      let few = schema_few e is w in
      let long = length-take-le r.fields r.parents fronts.0 in
      let columns = (λ j. columns_in (its_column_rows e is w j) (its_columns e is w j)) ∙ columns_back.all h.lists.columns _ in
      record {
        parents_are = take_all most_fields (take r.fields r.parents) (omega arith) ∙ (λ j. take (its_fields e is w j) (its_parents e is w j)) ∙ parents_front _ h.lists.fields;
        flags_are = (λ j. take (its_fields e is w j) (its_flags e is w j)) ∙ flags_front _ h.lists.fields;
        columns_are = columns;
        bits_are = small_bits r.column_rows r.columns (λ i l. schema_column_bits e is w i l bytes) ∙ ap bits_of columns;
      }
