-- Worked examples: tables, and what the rules of writing make of them. All of them compute.
use Rattle.std.specs.Prelude.{ℕ, List, [], ◌∷◌, ◌≡◌, get_or}
use Rattle.records.specs.declared.HeaderTexts.{HeaderTexts}
use Rattle.header.specs.Header.{Header}
use Rattle.header.specs.Samples.{smallest_header, header_with_one_field}
use Rattle.writing.specs.Piece.{Piece}
use Rattle.writing.specs.Rows.{header_rows, footer_rows, page_rows_in}
use Rattle.writing.specs.Header.{header_piece}
use Rattle.writing.specs.Footer.{footer_piece}
use Rattle.writing.specs.PageList.{page_list_piece}

-- Headers.

abbrev pub nowhere : HeaderTexts
nowhere = record { name = record { place = 0; len = 0 }; description = record { place = 0; len = 0 } }

-- the lent strings "abTd"
abbrev pub letters : List ℕ
letters = 97 ∷ 98 ∷ 84 ∷ 100 ∷ []

-- a table with one field: versions 2 and 3, a parent, role 1, flag 1, five times, then its strings "ab" from a place on, "T", "" and "d"
abbrev pub one_field : ℕ → ℕ → List ℕ
one_field parent place = 2 ∷ 3 ∷ parent ∷ 1 ∷ 1 ∷ 5 ∷ place ∷ 2 ∷ 2 ∷ 1 ∷ 0 ∷ 0 ∷ 3 ∷ 1 ∷ 0 ∷ []

-- two fields, each the other's parent
abbrev pub two_fields : List ℕ
two_fields = 0 ∷ 0 ∷ 1 ∷ 0 ∷ 0 ∷ 0 ∷ 0 ∷ 0 ∷ 0 ∷ 0 ∷ 0 ∷ 0 ∷ 0 ∷ 0 ∷ 0 ∷ 0 ∷ 0 ∷ 0 ∷ 0 ∷ 0 ∷ 0 ∷ 0 ∷ 0 ∷ 0 ∷ 0 ∷ 0 ∷ 0 ∷ 0 ∷ 0 ∷ 0 ∷ []

abbrev pub header_of_tables : List ℕ → List ℕ → List ℕ → List ℕ → Piece
header_of_tables strings fields columns aliases = header_piece strings nowhere (header_rows fields columns aliases)

pub record WrittenHeaders : Type 0 where
  pub smallest : (header_of_tables [] [] [] []).bytes ≡ smallest_header
  pub with_one_field : (header_of_tables letters (one_field 0 0) [] []).bytes ≡ header_with_one_field
  pub good : (header_of_tables letters (one_field 0 0) [] []).number ≡ 0
  pub no_such_parent : (header_of_tables letters (one_field 1 0) [] []).number ≡ 14
  pub parent_too_wide : (header_of_tables letters (one_field 4294967296 0) [] []).number ≡ 25
  pub string_outside : (header_of_tables letters (one_field 0 3) [] []).number ≡ 7
  -- also where it is empty
  pub empty_outside : (header_piece [] (record { name = record { place = 1; len = 0 }; description = record { place = 0; len = 0 } }) (header_rows [] [] [])).number ≡ 7
  pub ill_formed : (header_of_tables (97 ∷ 200 ∷ 84 ∷ 100 ∷ []) (one_field 0 0) [] []).number ≡ 9
  -- the length of a string counts as given, before the parent that is none of the fields
  pub too_long : (header_of_tables letters (2 ∷ 3 ∷ 7 ∷ 1 ∷ 1 ∷ 5 ∷ 0 ∷ 18446744073709551615 ∷ 2 ∷ 1 ∷ 0 ∷ 0 ∷ 3 ∷ 1 ∷ 0 ∷ []) [] []).number ≡ 1
  pub other_bits : (header_of_tables letters (one_field 0 0) (1 ∷ 63 ∷ 0 ∷ 0 ∷ []) []).number ≡ 13
  pub endless : (header_of_tables [] two_fields [] []).number ≡ 15

-- Footers beside a header with checksum 7, in a file of 100 bytes.

abbrev pub footer_of_tables : List ℕ → List ℕ → Piece
footer_of_tables clusters metadata = footer_piece 7 100 (footer_rows clusters metadata)

-- the version and the minimum of an envelope, by their first bytes
pub record Versions (x : Piece) (version minimum : ℕ) : Type 0 where
  pub good : x.number ≡ 0
  pub version_is : get_or x.bytes 0 0 ≡ version
  pub minimum_is : get_or x.bytes 2 0 ≡ minimum

pub record WrittenFooters : Type 0 where
  pub empty : Versions (footer_of_tables [] []) 1 1
  pub without : Versions (footer_of_tables (0 ∷ 3 ∷ 8 ∷ 0 ∷ 4294967296 ∷ []) []) 1 1
  pub with : Versions (footer_of_tables (0 ∷ 3 ∷ 8 ∷ 0 ∷ 5 ∷ []) (8 ∷ 8 ∷ [])) 2 1
  pub mixed : (footer_of_tables (0 ∷ 3 ∷ 8 ∷ 0 ∷ 5 ∷ 9 ∷ 3 ∷ 8 ∷ 0 ∷ 4294967296 ∷ []) []).number ≡ 19
  -- any other number counts as a checksum, and is too wide
  pub checksum_too_wide : (footer_of_tables (0 ∷ 3 ∷ 8 ∷ 0 ∷ 4294967297 ∷ []) []).number ≡ 25
  pub size_too_wide : (footer_of_tables [] (2147483648 ∷ 0 ∷ [])).number ≡ 25
  pub outside_file : (footer_of_tables [] (8 ∷ 93 ∷ [])).number ≡ 18
  pub other_start : (footer_of_tables (1 ∷ 3 ∷ 8 ∷ 0 ∷ 5 ∷ []) []).number ≡ 19
  pub entries_too_wide : (footer_of_tables (0 ∷ 1152921504606846976 ∷ 8 ∷ 0 ∷ 5 ∷ []) []).number ≡ 25

-- Page lists beside a header of two columns, of 8 bits and of 1 bit on no top-level field, in a file of 100 bytes.

abbrev pub two_columns : Header
two_columns =
    record {
      texts = nowhere;
      lists = record {
        fields_at = 0;
        fields = [];
        columns_at = 0;
        columns = record { column_type = 3; bits = 8; field = record { 0 = 0 }; flags = 0 } ∷ record { column_type = 0; bits = 1; field = record { 0 = 0 }; flags = 0 } ∷ [];
        aliases_at = 0;
        aliases = [];
      };
    }

abbrev pub page_list_of_table : List ℕ → Piece
page_list_of_table pages = page_list_piece two_columns 5 100 (page_rows_in pages)

pub record WrittenPageLists : Type 0 where
  pub good : (page_list_of_table (0 ∷ 5 ∷ 1 ∷ 5 ∷ 91 ∷ 1 ∷ 9 ∷ 0 ∷ 2 ∷ 0 ∷ [])).number ≡ 0
  pub another_order : (page_list_of_table (1 ∷ 9 ∷ 0 ∷ 2 ∷ 0 ∷ 0 ∷ 5 ∷ 1 ∷ 5 ∷ 91 ∷ [])).number ≡ 14
  pub no_such_column : (page_list_of_table (2 ∷ 5 ∷ 0 ∷ 5 ∷ 0 ∷ [])).number ≡ 14
  pub elements_too_many : (page_list_of_table (0 ∷ 1073741824 ∷ 0 ∷ 5 ∷ 0 ∷ [])).number ≡ 25
  pub bit_too_wide : (page_list_of_table (0 ∷ 5 ∷ 2 ∷ 5 ∷ 0 ∷ [])).number ≡ 25
  pub other_size : (page_list_of_table (0 ∷ 5 ∷ 0 ∷ 6 ∷ 0 ∷ [])).number ≡ 17
  pub check_bytes_outside : (page_list_of_table (0 ∷ 5 ∷ 1 ∷ 5 ∷ 92 ∷ [])).number ≡ 18
