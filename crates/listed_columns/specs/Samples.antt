-- A header and page lists whose pages are lent to the call on a column. Another program wrote their bytes. All of them compute.
use Rattle.std.specs.Prelude.{ℕ, ◌≤◌, List, [], ◌∷◌, ◌++◌, ◌≡◌, length}
use Rattle.numbers.specs.Lists.{Each}
use Rattle.wire.specs.Reading.{found}
use Rattle.header.specs.Header.{Header}
use Rattle.header.specs.Tables.{header_of}
use Rattle.column_rules.specs.Column.{accept_all, whole_column}
use Rattle.column_rules.specs.Samples.{nine_bits, four_bits}
use Rattle.listed_columns.specs.Listed.{ListedCall, in_listed}

-- one field with two columns on it: column 0 of type 1, with 64 bits, and column 1 of type 6, Bit
abbrev pub sample_header : List ℕ
sample_header =
    1 ∷ 0 ∷ 1 ∷ 0 ∷ 0 ∷ 0 ∷ 0 ∷ 0 ∷ 0 ∷ 0 ∷ 0 ∷ 0 ∷ 0 ∷ 0 ∷ 0 ∷ 0 ∷ 0 ∷ 0 ∷ 0 ∷ 0 ∷ 212 ∷ 255 ∷ 255 ∷ 255 ∷ 1 ∷ 0 ∷ 0 ∷ 0 ∷ 36 ∷ 0 ∷ 0 ∷ 0 ∷ 0 ∷ 0 ∷ 0 ∷ 0 ∷ 0 ∷ 0 ∷ 0 ∷ 0 ∷ 0 ∷ 0 ∷ 0 ∷ 0 ∷ 0 ∷ 0 ∷ 0 ∷ 0 ∷ 0 ∷ 0 ∷ 0 ∷ 0 ∷ 0 ∷ 0 ∷ 0 ∷ 0 ∷ 0 ∷ 0 ∷ 0 ∷ 0 ∷ 0 ∷ 0 ∷ 0 ∷ 0 ∷ 216 ∷ 255 ∷ 255 ∷ 255 ∷ 2 ∷ 0 ∷ 0 ∷ 0 ∷ 16 ∷ 0 ∷ 0 ∷ 0 ∷ 1 ∷ 0 ∷ 64 ∷ 0 ∷ 0 ∷ 0 ∷ 0 ∷ 0 ∷ 0 ∷ 0 ∷ 0 ∷ 0 ∷ 16 ∷ 0 ∷ 0 ∷ 0 ∷ 6 ∷ 0 ∷ 1 ∷ 0 ∷ 0 ∷ 0 ∷ 0 ∷ 0 ∷ 0 ∷ 0 ∷ 0 ∷ 0 ∷ 248 ∷ 255 ∷ 255 ∷ 255 ∷ 0 ∷ 0 ∷ 0 ∷ 0 ∷ 252 ∷ 117 ∷ 203 ∷ 64 ∷ []

abbrev pub sample_tables : Header
sample_tables =
    record {
      texts = record { name = record { place = 16; len = 0 }; description = record { place = 20; len = 0 } };
      lists = record {
        fields_at = 20;
        fields =
            record {
              head = record { field_version = 0; type_version = 0; parent = record { 0 = 0 }; role = 0; flags = 0; repetition = 0 };
              texts = record {
                name = record { place = 52; len = 0 };
                type_name = record { place = 56; len = 0 };
                type_alias = record { place = 60; len = 0 };
                description = record { place = 64; len = 0 };
              };
            } ∷ [];
        columns_at = 64;
        columns =
            record { column_type = 1; bits = 64; field = record { 0 = 0 }; flags = 0 }
            ∷ record { column_type = 6; bits = 1; field = record { 0 = 0 }; flags = 0 } ∷ [];
        aliases_at = 104;
        aliases = [];
      };
    }

-- a page of column 0 at place 0, with one element; two of column 1, at place 3 with nine elements and a checksum and at place 10 with four
abbrev pub sample_page_list : List ℕ
sample_page_list =
    1 ∷ 0 ∷ 1 ∷ 0 ∷ 184 ∷ 255 ∷ 255 ∷ 255 ∷ 2 ∷ 0 ∷ 0 ∷ 0 ∷ 232 ∷ 255 ∷ 255 ∷ 255 ∷ 1 ∷ 0 ∷ 0 ∷ 0 ∷ 1 ∷ 0 ∷ 0 ∷ 0 ∷ 8 ∷ 0 ∷ 0 ∷ 0 ∷ 0 ∷ 0 ∷ 0 ∷ 0 ∷ 0 ∷ 0 ∷ 0 ∷ 0 ∷ 216 ∷ 255 ∷ 255 ∷ 255 ∷ 2 ∷ 0 ∷ 0 ∷ 0 ∷ 9 ∷ 0 ∷ 0 ∷ 64 ∷ 2 ∷ 0 ∷ 0 ∷ 0 ∷ 3 ∷ 0 ∷ 0 ∷ 0 ∷ 0 ∷ 0 ∷ 0 ∷ 0 ∷ 4 ∷ 0 ∷ 0 ∷ 0 ∷ 1 ∷ 0 ∷ 0 ∷ 0 ∷ 10 ∷ 0 ∷ 0 ∷ 0 ∷ 0 ∷ 0 ∷ 0 ∷ 0 ∷ 26 ∷ 78 ∷ 199 ∷ 151 ∷ []

-- the words of these three rows
abbrev pub sample_pages : List ℕ
sample_pages = (0 ∷ 1 ∷ 0 ∷ 8 ∷ 0 ∷ []) ++ (1 ∷ 9 ∷ 1 ∷ 2 ∷ 3 ∷ []) ++ (1 ∷ 4 ∷ 0 ∷ 1 ∷ 10 ∷ [])

-- the same page of column 0, and one of column 1 with 131,073 elements, also at place 0
abbrev pub long_page_list : List ℕ
long_page_list =
    1 ∷ 0 ∷ 1 ∷ 0 ∷ 200 ∷ 255 ∷ 255 ∷ 255 ∷ 2 ∷ 0 ∷ 0 ∷ 0 ∷ 232 ∷ 255 ∷ 255 ∷ 255 ∷ 1 ∷ 0 ∷ 0 ∷ 0 ∷ 1 ∷ 0 ∷ 0 ∷ 0 ∷ 8 ∷ 0 ∷ 0 ∷ 0 ∷ 0 ∷ 0 ∷ 0 ∷ 0 ∷ 0 ∷ 0 ∷ 0 ∷ 0 ∷ 232 ∷ 255 ∷ 255 ∷ 255 ∷ 1 ∷ 0 ∷ 0 ∷ 0 ∷ 1 ∷ 0 ∷ 2 ∷ 0 ∷ 1 ∷ 64 ∷ 0 ∷ 0 ∷ 0 ∷ 0 ∷ 0 ∷ 0 ∷ 0 ∷ 0 ∷ 0 ∷ 0 ∷ 150 ∷ 202 ∷ 176 ∷ 125 ∷ []

abbrev pub long_pages : List ℕ
long_pages = (0 ∷ 1 ∷ 0 ∷ 8 ∷ 0 ∷ []) ++ (1 ∷ 131073 ∷ 0 ∷ 16385 ∷ 0 ∷ [])

pub record Samples : Type 0 where
  pub header_reads : header_of sample_header ≡ found sample_tables 112
  -- the pages of column 1 in any part of a file that has 11 bytes or more, in the order of the page list and in another
  pub bits : (file : List ℕ) → 11 ≤ length file → ListedCall 6 file (nine_bits ++ four_bits)
  pub other_order : (file : List ℕ) → 11 ≤ length file → ListedCall 6 file (four_bits ++ nine_bits)
  -- the page of 131,073 elements
  pub long : (file : List ℕ) → 16385 ≤ length file → ListedCall 6 file (0 ∷ 16385 ∷ 131073 ∷ 0 ∷ [])
  -- the page of column 0 is accepted whatever its bytes are
  pub one_element : (file old : List ℕ) → 11 ≤ length file → 1 ≤ length old → (whole_column 1 file (0 ∷ 8 ∷ 1 ∷ 0 ∷ []) old).outcome ≡ accept_all 1

-- the numbers that are left are no more than there are: for each of them a call on pages of an accepted page list that it is given for
pub record Given (k : ℕ) : Type 0 where
  pub file : List ℕ
  pub table : List ℕ
  pub old : List ℕ
  pub is_listed : ListedCall 6 file table
  pub number : (whole_column 6 file table old).outcome.number ≡ k

abbrev pub EachGiven : Type 0
EachGiven = Each Given in_listed
