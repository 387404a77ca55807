-- A header as it is written: each part in the order of the reader's rules, with the reader's verdicts.
use Rattle.std.specs.Prelude.{ℕ, List, [], ◌∷◌, map, length}
use Rattle.numbers.specs.Choice.{pick}
use Rattle.wire.specs.Reading.{unless, below, listed}
use Rattle.frames.specs.Frames.{at_most}
use Rattle.envelope.specs.Features.{feature_bits}
use Rattle.records.specs.Records.{repetitive, sized, aliasable}
use Rattle.records.specs.declared.HeaderTexts.{HeaderTexts}
use Rattle.rows.specs.Words.{most_fields, most_columns, most_aliases}
use Rattle.rows.specs.declared.FieldHead.{FieldHead}
use Rattle.rows.specs.declared.FieldTexts.{FieldTexts}
use Rattle.rows.specs.declared.FieldRow.{FieldRow}
use Rattle.rows.specs.declared.ColumnRow.{ColumnRow}
use Rattle.rows.specs.declared.AliasRow.{AliasRow}
use Rattle.header.specs.Header.{flags_of}
use Rattle.header.specs.Tables.{parents_of}
use Rattle.parents.specs.Parents.{all_reach}
use Rattle.tree.specs.Shape.{NoVerdict, chars}
use Rattle.tree.specs.HeaderTree.{FieldContent, texts_content, HeaderContent}
use Rattle.writing.specs.Piece.{Piece, put, text, nothing, in_order, record_piece, list_piece, tested_last, enveloped}
use Rattle.writing.specs.Rows.{HeaderRows}

-- one zero feature word
abbrev pub feature_word : Piece
feature_word = put 8 64 feature_bits 0

-- a repetition is written where the flags say so
unfoldable pub repetition_piece : ℕ → ℕ → Piece
repetition_piece flags n = pick (repetitive flags) (put 8 64 NoVerdict n) nothing

-- what a field's record has before its strings, where the header has n fields
unfoldable pub field_head_piece : ℕ → FieldHead → Piece
field_head_piece n h =
    in_order (
    put 4 32 NoVerdict h.field_version
    ∷ put 4 32 NoVerdict h.type_version
    ∷ put 4 32 (below n) h.parent.0
    ∷ put 2 16 (listed 4) h.role
    ∷ put 2 16 (listed 3) h.flags
    ∷ repetition_piece h.flags h.repetition
    ∷ [])

unfoldable pub field_texts_piece : List ℕ → FieldTexts → Piece
field_texts_piece strings t =
    in_order (text strings t.name ∷ text strings t.type_name ∷ text strings t.type_alias ∷ text strings t.description ∷ [])

unfoldable pub field_piece : List ℕ → ℕ → FieldRow → Piece
field_piece strings n r = in_order (field_head_piece n r.head ∷ field_texts_piece strings r.texts ∷ [])

-- a column's content, where the header has n fields
unfoldable pub column_piece : ℕ → ColumnRow → Piece
column_piece n c =
    in_order (
    put 2 16 NoVerdict c.column_type
    ∷ put 2 16 (sized c.column_type) c.bits
    ∷ put 4 32 (below n) c.field.0
    ∷ put 4 32 (listed 7) c.flags
    ∷ [])

-- an alias's content, where the fields have these flags and there are so many columns
unfoldable pub alias_piece : List ℕ → ℕ → AliasRow → Piece
alias_piece flags columns a = in_order (put 4 32 (below columns) a.column.0 ∷ put 4 32 (aliasable flags) a.field.0 ∷ [])

-- the feature word, name and description
unfoldable pub texts_piece : List ℕ → HeaderTexts → Piece
texts_piece strings t = in_order (feature_word ∷ text strings t.name ∷ text strings t.description ∷ [])

-- the record of each row

abbrev pub field_item : List ℕ → ℕ → List FieldRow → FieldRow → Piece
field_item strings n before r = record_piece (field_piece strings n r)

abbrev pub column_item : ℕ → List ColumnRow → ColumnRow → Piece
column_item fields before c = record_piece (column_piece fields c)

abbrev pub alias_item : List ℕ → ℕ → List AliasRow → AliasRow → Piece
alias_item flags columns before a = record_piece (alias_piece flags columns a)

-- the three lists

abbrev pub field_list_piece : List ℕ → List FieldRow → Piece
field_list_piece strings rows = list_piece (at_most most_fields) (field_item strings (length rows)) rows

abbrev pub column_list_piece : ℕ → List ColumnRow → Piece
column_list_piece fields rows = list_piece (at_most most_columns) (column_item fields) rows

abbrev pub alias_list_piece : List ℕ → ℕ → List AliasRow → Piece
alias_list_piece flags columns rows = list_piece (at_most most_aliases) (alias_item flags columns) rows

unfoldable pub lists_piece : List ℕ → HeaderRows → Piece
lists_piece strings t =
    in_order (
    field_list_piece strings t.fields
    ∷ column_list_piece (length t.fields) t.columns
    ∷ alias_list_piece (flags_of t.fields) (length t.columns) t.aliases
    ∷ [])

unfoldable pub payload_piece : List ℕ → HeaderTexts → HeaderRows → Piece
payload_piece strings named t = in_order (texts_piece strings named ∷ lists_piece strings t ∷ [])

-- after the payload: every parent chain ends
abbrev pub chains : List FieldRow → ℕ
chains rows = unless (all_reach (parents_of rows) (length rows)) 15 0

-- the header of tables whose strings stand in the lent strings: version 1, minimum 1
unfoldable pub header_piece : List ℕ → HeaderTexts → HeaderRows → Piece
header_piece strings named t = tested_last (enveloped 1 1 (payload_piece strings named t)) (chains t.fields)

-- what the tables say: strings by their characters, and no repetition without its flag

abbrev pub field_says : List ℕ → FieldRow → FieldContent
field_says strings r =
    record {
      head = record {
        field_version = r.head.field_version;
        type_version = r.head.type_version;
        parent = r.head.parent;
        role = r.head.role;
        flags = r.head.flags;
        repetition = pick (repetitive r.head.flags) r.head.repetition 0;
      };
      texts = texts_content strings r.texts;
    }

unfoldable pub header_says : List ℕ → HeaderTexts → HeaderRows → HeaderContent
header_says strings named t =
    record {
      name = chars strings named.name;
      description = chars strings named.description;
      fields = map (field_says strings) t.fields;
      columns = t.columns;
      aliases = t.aliases;
    }
