-- Worked calls on a column, computed.
-- Assumes nothing.
use mathlib.Core.Path.{refl}
use Rattle.numbers.specs.Numbers.{little}
use Rattle.checksum.specs.Crc.{shifted, bits, byte, fold, crc32}
use Rattle.column_type.specs.Types.{widths, known, width_of, split, delta, zigzag}
use Rattle.coding.specs.Layout.{unpacked}
use Rattle.rows.specs.Tables.{row_words, first_rows}
use Rattle.page_rules.specs.Page.{checksum_right, unused_clear, decode_outcome, decoded, laid, elements}
use Rattle.column_rules.specs.Column.{page_outcome, page_decoded, in_turn, whole_column}
use Rattle.column_rules.specs.Samples.{Samples, EachGiven}

pub samples : Samples
unfolding whole_column first_rows row_words in_turn page_outcome page_decoded decode_outcome decoded checksum_right unused_clear elements laid unpacked little crc32 fold byte bits shifted known width_of widths split delta zigzag
samples =
    record {
      both_pages = refl;
      other_order = refl;
      room_for_one = refl;
      third_unseen = refl;
      one_byte_further = refl;
      check_bytes_outside = refl;
      greatest_offset = refl;
      type_first = refl;
      count_first = refl;
      no_pages = refl;
    }

pub each_given : EachGiven
unfolding whole_column first_rows row_words in_turn page_outcome page_decoded decode_outcome decoded checksum_right unused_clear elements laid unpacked little crc32 fold byte bits shifted known width_of widths split delta zigzag
each_given = record { numbers = refl; indexes = refl }
