-- The length and the refusals of a whole header by those of its parts.
use Prim.Native.Nat.{ℕ, ◌+◌, ◌*◌, ◌/◌}
use mathlib.Core.List.{List, [], ◌∷◌, ◌++◌}
use mathlib.Core.Path.{◌≡◌, refl, sym, ap, ◌∙◌}
use native.Mathlib.Nat.{mul-zero, mul-suc, mul_comm}
use native.Mathlib.Omega.{arith}
use lib.ListN.{length}
use Rattle.rows.specs.Words.{field_width, column_width, alias_width}
use Rattle.rows.specs.Tables.{field_row, column_row, alias_row}
use Rattle.rows.specs.declared.FieldRow.{FieldRow}
use Rattle.rows.specs.declared.ColumnRow.{ColumnRow}
use Rattle.rows.specs.declared.AliasRow.{AliasRow}
use Rattle.rows.proofs.FirstRows.{rows_length}
use Rattle.records.specs.declared.HeaderTexts.{HeaderTexts}
use Rattle.header.specs.Header.{flags_of}
use Rattle.writing.specs.Piece.{Piece, first, text, pieces}
use Rattle.writing.specs.Rows.{all_rows, header_rows}
use Rattle.writing.specs.Header.{field_item, column_piece, column_item, alias_piece, alias_item, field_list_piece, column_list_piece, alias_list_piece, texts_piece, lists_piece, payload_piece, header_piece}
use Rattle.writing.proofs.Items.{first_alone}
use Rattle.verdicts.specs.Length.{capped}
use Rattle.verdicts.proofs.Capped.{capped_more, grown_twice}

-- items that all have the same length
even : {A : Type 0} (f : List A → A → Piece) (size : ℕ) → ((done : List A) (a : A) → (f done a).long ≡ size) → (done rows : List A) → (pieces f done rows).long ≡ size * length rows
unfolding pieces
even f size each done [] = sym (mul-zero size)
even f size each done (a ∷ rest) = omega (arith, each done a, even f size each (done ++ (a ∷ [])) rest, mul-suc size (length rest))

module _ (strings : List ℕ) (named : HeaderTexts) (fields columns aliases : List ℕ) where
  abbrev field_rows : List FieldRow
  field_rows = all_rows field_row field_width fields

  abbrev column_rows : List ColumnRow
  column_rows = all_rows column_row column_width columns

  abbrev alias_rows : List AliasRow
  alias_rows = all_rows alias_row alias_width aliases

  n_is : length field_rows ≡ length fields / field_width
  n_is = rows_length field_row fields (length fields / field_width)

  m_is : length column_rows ≡ length columns / column_width
  m_is = rows_length column_row columns (length columns / column_width)

  columns_long : (pieces (column_item (length field_rows)) [] column_rows).long ≡ length columns / column_width * 16
  unfolding column_piece
  columns_long = even (column_item (length field_rows)) 16 (λ _ _. refl) [] column_rows ∙ ap (λ (k : ℕ). 16 * k) m_is ∙ mul_comm 16 (length columns / column_width)

  aliases_long : (pieces (alias_item (flags_of field_rows) (length column_rows)) [] alias_rows).long ≡ length aliases / alias_width * 12
  unfolding alias_piece
  aliases_long =
      even (alias_item (flags_of field_rows) (length column_rows)) 12 (λ _ _. refl) [] alias_rows ∙ ap (λ (k : ℕ). 12 * k) (rows_length alias_row aliases (length aliases / alias_width))
      ∙ mul_comm 12 (length aliases / alias_width)

  abbrev fields_long : ℕ
  fields_long = (pieces (field_item strings (length field_rows)) [] field_rows).long

  parts_long : (header_piece strings named (header_rows fields columns aliases)).long
      ≡ fields_long + (48 + named.name.len + named.description.len + length columns / column_width * 16 + length aliases / alias_width * 12)
  unfolding header_piece payload_piece texts_piece lists_piece text
  parts_long = omega (arith, columns_long, aliases_long)

  -- a length that grows by each part
  pub header_long_is : (w r₁ r₂ r₃ r₄ r₅ : ℕ) → w ≡ capped fields_long → r₁ ≡ capped (w + 48) → r₂ ≡ capped (r₁ + named.name.len) → r₃ ≡ capped (r₂ + named.description.len)
      → r₄ ≡ capped (r₃ + length columns / column_width * 16) → r₅ ≡ capped (r₄ + length aliases / alias_width * 12)
      → r₅ ≡ capped (header_piece strings named (header_rows fields columns aliases)).long
  header_long_is w r₁ r₂ r₃ r₄ r₅ e₀ e₁ e₂ e₃ e₄ e₅ =
      let one = e₁ ∙ ap (λ (k : ℕ). capped (k + 48)) e₀ ∙ capped_more fields_long 48 in
      let two = grown_twice fields_long 48 _ r₁ r₂ one e₂ in
      let three = grown_twice fields_long _ _ r₂ r₃ two e₃ in
      let four = grown_twice fields_long _ _ r₃ r₄ three e₄ in
      let five = grown_twice fields_long _ _ r₄ r₅ four e₅ in
      five ∙ ap capped (sym parts_long)

  pub payload_number : (payload_piece strings named (header_rows fields columns aliases)).number
      ≡ first (first (text strings named.name).number (text strings named.description).number)
      (first (field_list_piece strings field_rows).number
      (first (column_list_piece (length fields / field_width) column_rows).number (alias_list_piece (flags_of field_rows) (length columns / column_width) alias_rows).number))
  unfolding payload_piece texts_piece lists_piece
  payload_number =
      let name = (text strings named.name).number in
      let description = (text strings named.description).number in
      let lists = first (field_list_piece strings field_rows).number (first (column_list_piece (length field_rows) column_rows).number (first (alias_list_piece (flags_of field_rows) (length column_rows) alias_rows).number 0)) in
      ap (λ (k : ℕ). first (first name k) (first lists 0)) (first_alone description)
      ∙ ap (λ (k : ℕ). first (first name description) k) (first_alone lists)
      ∙ ap (λ (k : ℕ). first (first name description) (first (field_list_piece strings field_rows).number (first (column_list_piece (length field_rows) column_rows).number k))) (first_alone (alias_list_piece (flags_of field_rows) (length column_rows) alias_rows).number)
      ∙ (λ i. first (first name description) (first (field_list_piece strings field_rows).number (first (column_list_piece (n_is i) column_rows).number (alias_list_piece (flags_of field_rows) (m_is i) alias_rows).number)))
