-- The worked column of two pages, written by encoding calls: computed.
-- Assumes nothing.
use mathlib.Core.Path.{refl}
use lib.ListN.{replicate}
use Rattle.checksum.specs.Crc.{shifted, bits, byte, fold, crc32}
use Rattle.column_type.specs.Types.{widths, known, width_of, split, delta, zigzag}
use Rattle.coding.specs.Layout.{bytes_of, bits_byte, packed, fit}
use Rattle.rows.specs.Tables.{row_words, first_rows}
use Rattle.page_rules.specs.Page.{bytes, checked_page, encode_outcome, encoded}
use Rattle.column_round_trip.specs.ColumnRoundTrip.{SampleWritten}

pub sample_written : SampleWritten
unfolding first_rows row_words encode_outcome encoded checked_page bytes packed bits_byte bytes_of fit crc32 fold byte bits shifted known width_of widths split delta zigzag
sample_written = (record { room = replicate 6 0; accepted = refl; is_inside = refl; bytes_are = refl }, (record { room = replicate 1 0; accepted = refl; is_inside = refl; bytes_are = refl }, tt))
