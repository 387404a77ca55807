-- The worked calls on pages of a page list, computed.
-- Assumes nothing.
use Prim.Native.Nat.{ℕ, ◌≤◌}
use mathlib.Core.List.{List, [], ◌∷◌, ◌++◌}
use mathlib.Core.Bool.{true, false}
use mathlib.Core.Path.{◌≡◌, refl}
use native.Mathlib.Omega.{arith}
use lib.ListN.{length, replicate, length-replicate}
use Rattle.numbers.specs.Lists.{Each}
use Rattle.numbers.specs.Numbers.{little}
use Rattle.numbers.specs.Rows.{flat}
use Rattle.checksum.specs.Crc.{shifted, bits, byte, fold, crc32}
use Rattle.wire.specs.Reading.{found, number, judged}
use Rattle.text.specs.Strings.{string_of}
use Rattle.utf8.specs.WellFormed.{due, goes_on, well_formed}
use Rattle.frames.specs.Frames.{record_of, list_of, items, frame_size, record_head, list_stop, count_judged}
use Rattle.envelope.specs.Envelope.{versioned, opened}
use Rattle.envelope.specs.Features.{features}
use Rattle.column_type.specs.Types.{known, width_of, widths, split, delta, zigzag}
use Rattle.records.specs.Records.{repetition, field_head, field_texts, field, column, alias, texts}
use Rattle.parents.specs.Parents.{meets, all_reach}
use Rattle.header.specs.Header.{columns_after, aliases_after, lists, payload}
use Rattle.header.specs.Tables.{header_of, chained}
use Rattle.header.proofs.Besides.{both_read_is}
use Rattle.rows.specs.Tables.{rows_in, row_words, first_rows}
use Rattle.rows.specs.declared.PageRow.{PageRow}
use Rattle.page_list.specs.PageList.{page_list_of, summed}
use Rattle.page_list.specs.Tables.{page_list_beside, answer, written, Answered}
use Rattle.column_pages.specs.ColumnPages.{payload as pageListPayload, pages_of}
use Rattle.pages.specs.Pages.{pages, page, elements_of}
use Rattle.totals.specs.Totals.{totals, total_of}
use Rattle.tree.proofs.Place.{all_bytes, bytes_tested}
use Rattle.page_rules.specs.Page.{readable, checksum_right, unused_clear, decode_outcome, decoded, elements, laid}
use Rattle.coding.specs.Layout.{unpacked}
use Rattle.column_rules.specs.Column.{column_page_width, column_pages, most_column_pages, page_outcome, page_decoded, in_turn, whole_column}
use Rattle.column_rules.specs.Statements.{elements_of as elementsInColumn}
use Rattle.column_rules.specs.Samples.{sample_file, nine_bits, four_bits}
use Rattle.listed_columns.specs.Listed.{Listed, type_in, ListedCall, NothingLeft}
use Rattle.listed_columns.specs.Samples.{sample_header, sample_tables, sample_page_list, sample_pages, long_page_list, long_pages, Samples, EachGiven}
use Rattle.listed_columns.proofs.Listed.{nothing_left}
use Rattle.std.specs.Prelude.{Ok}

header_reads_lem : header_of sample_header ≡ found sample_tables 112
unfolding versioned opened record_of list_of items number judged string_of well_formed goes_on due frame_size record_head list_stop count_judged little crc32 fold byte bits shifted features header_of chained payload texts lists columns_after aliases_after repetition field_head field_texts field column alias known width_of widths all_reach meets
header_reads_lem = refl

abbrev first_page : PageRow
first_page = record { column = record { 0 = 0 }; elements = 1; checksum = false; size = 8; offset = 0 }

abbrev sample_rows : List (List PageRow)
sample_rows =
    (first_page ∷ [])
    ∷ (record { column = record { 0 = 1 }; elements = 9; checksum = true; size = 2; offset = 3 } ∷ record { column = record { 0 = 1 }; elements = 4; checksum = false; size = 1; offset = 10 } ∷ []) ∷ []

abbrev long_rows : List (List PageRow)
long_rows = (first_page ∷ []) ∷ (record { column = record { 0 = 1 }; elements = 131073; checksum = false; size = 16385; offset = 0 } ∷ []) ∷ []

sample_reads : page_list_of sample_tables 1 11 sample_page_list ≡ found sample_rows 76
unfolding versioned opened record_of list_of items number judged frame_size list_stop count_judged little crc32 fold byte bits shifted known page_list_of pageListPayload summed pages page pages_of totals total_of elements_of
sample_reads = refl

long_reads : page_list_of sample_tables 1 16385 long_page_list ≡ found long_rows 60
unfolding versioned opened record_of list_of items number judged frame_size list_stop count_judged little crc32 fold byte bits shifted known page_list_of pageListPayload summed pages page pages_of totals total_of elements_of
long_reads = refl

sample_call_lem : Answered (page_list_beside sample_header sample_page_list 1 11) (replicate 15 77) sample_pages (Ok 3)
unfolding page_list_beside answer written flat pages_of
sample_call_lem =
    rw (both_read_is 3 (λ h. page_list_of h 1 11 sample_page_list) (header_of sample_header) sample_rows sample_tables 112 76 header_reads_lem sample_reads)
    (record { answers = refl; reports = refl; pages_are = refl })

long_call : Answered (page_list_beside sample_header long_page_list 1 16385) (replicate 10 77) long_pages (Ok 2)
unfolding page_list_beside answer written flat pages_of
long_call =
    rw (both_read_is 3 (λ h. page_list_of h 1 16385 long_page_list) (header_of sample_header) long_rows sample_tables 112 60 header_reads_lem long_reads)
    (record { answers = refl; reports = refl; pages_are = refl })

-- pages of column c, of type t, in a page list beside the sample header
module _ (list : List ℕ) (told : ℕ) (before pages : List ℕ) (count : ℕ) (accepted : Answered (page_list_beside sample_header list 1 told) before pages (Ok count)) where
  listed_call : (t c : ℕ) (file table : List ℕ) → all_bytes list ≡ true → told ≤ length file → t ≡ type_in sample_tables c → readable t ≡ true
      → rows_in column_page_width table ≤ most_column_pages → Each (Listed c pages count) (column_pages table) → ListedCall t file table
  listed_call t c file table bytes long is_type is_readable few listed =
      record {
        header = sample_header;
        header_bytes = bytes_tested sample_header refl;
        tables = sample_tables;
        place = 112;
        is_read = header_reads_lem;
        list = list;
        list_bytes = bytes_tested list bytes;
        entries = 1;
        told = told;
        before = before;
        pages = pages;
        count = count;
        accepted = accepted;
        long = long;
        column = c;
        is_type = is_type;
        is_readable = is_readable;
        few = few;
        listed = listed;
      }

nine_bits_lem : (file : List ℕ) → 11 ≤ length file → ListedCall 6 file (nine_bits ++ four_bits)
unfolding first_rows row_words known
nine_bits_lem file long =
    listed_call sample_page_list 11 (replicate 15 77) sample_pages 3 sample_call_lem 6 1 file (nine_bits ++ four_bits) refl long refl refl (omega arith)
    (record { row = 1; there = omega arith; of_column = refl; is = refl }, (record { row = 2; there = omega arith; of_column = refl; is = refl }, tt))

four_bits_lem : (file : List ℕ) → 11 ≤ length file → ListedCall 6 file (four_bits ++ nine_bits)
unfolding first_rows row_words known
four_bits_lem file long =
    listed_call sample_page_list 11 (replicate 15 77) sample_pages 3 sample_call_lem 6 1 file (four_bits ++ nine_bits) refl long refl refl (omega arith)
    (record { row = 2; there = omega arith; of_column = refl; is = refl }, (record { row = 1; there = omega arith; of_column = refl; is = refl }, tt))

one_element_lem : (file : List ℕ) → 11 ≤ length file → ListedCall 1 file (0 ∷ 8 ∷ 1 ∷ 0 ∷ [])
unfolding first_rows row_words known
one_element_lem file long =
    listed_call sample_page_list 11 (replicate 15 77) sample_pages 3 sample_call_lem 1 0 file (0 ∷ 8 ∷ 1 ∷ 0 ∷ []) refl long refl refl (omega arith) (record { row = 0; there = omega arith; of_column = refl; is = refl }, tt)

many_bits : (file : List ℕ) → 16385 ≤ length file → ListedCall 6 file (0 ∷ 16385 ∷ 131073 ∷ 0 ∷ [])
unfolding first_rows row_words known
many_bits file long =
    listed_call long_page_list 16385 (replicate 10 77) long_pages 2 long_call 6 1 file (0 ∷ 16385 ∷ 131073 ∷ 0 ∷ []) refl long refl refl (omega arith)
    (record { row = 1; there = omega arith; of_column = refl; is = refl }, tt)

pub samples : Samples
unfolding NothingLeft first_rows row_words elementsInColumn
samples =
    record {
      header_reads = header_reads_lem;
      bits = nine_bits_lem;
      other_order = four_bits_lem;
      long = many_bits;
      one_element = λ file old long room.
          nothing_left 1 file (0 ∷ 8 ∷ 1 ∷ 0 ∷ []) old (one_element_lem file long) (record { few = (omega arith, tt); room = omega (arith, room) }) (refl, tt) (λ e. omega arith);
    }

-- one byte of the checked page is another
abbrev changed_byte : List ℕ
changed_byte = 255 ∷ 255 ∷ 255 ∷ 2 ∷ 1 ∷ 40 ∷ 19 ∷ 197 ∷ 47 ∷ 238 ∷ 11 ∷ []

-- bit 4 of the byte that has four bits is set
abbrev bit_set : List ℕ
bit_set = 255 ∷ 255 ∷ 255 ∷ 1 ∷ 1 ∷ 40 ∷ 19 ∷ 197 ∷ 47 ∷ 238 ∷ 27 ∷ []

pub each_given : EachGiven
unfolding whole_column first_rows row_words in_turn page_outcome page_decoded decode_outcome decoded checksum_right unused_clear elements laid unpacked little crc32 fold byte bits shifted known width_of widths split delta zigzag
each_given = (
  record {
    file = replicate 16385 0;
    table = 0 ∷ 16385 ∷ 131073 ∷ 0 ∷ [];
    old = [];
    is_listed = many_bits (replicate 16385 0) (omega (arith, length-replicate {0} {A = ℕ} 16385 0));
    number = refl;
  },
  (
    record { file = changed_byte; table = nine_bits ++ four_bits; old = replicate 13 77; is_listed = nine_bits_lem changed_byte (omega arith); number = refl },
    (
      record { file = bit_set; table = nine_bits ++ four_bits; old = replicate 13 77; is_listed = nine_bits_lem bit_set (omega arith); number = refl },
      (
        record { file = sample_file; table = nine_bits ++ four_bits; old = replicate 12 77; is_listed = nine_bits_lem sample_file (omega arith); number = refl },
        tt,
      ),
    ),
  ),
)
