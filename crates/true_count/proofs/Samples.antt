-- Worked calls on Bit pages, computed.
-- Assumes nothing.
use mathlib.Core.Path.{refl}
use Rattle.numbers.specs.Numbers.{little}
use Rattle.checksum.specs.Crc.{shifted, bits, byte, fold, crc32}
use Rattle.column_type.specs.Types.{widths, known, width_of, delta, zigzag}
use Rattle.coding.specs.Layout.{unpacked}
use Rattle.page_rules.specs.Page.{checksum_right, unused_clear, decode_outcome, laid, elements}
use Rattle.true_count.specs.True.{trues, count_outcome}
use Rattle.true_count.specs.Samples.{Samples}

pub samples : Samples
unfolding count_outcome trues decode_outcome checksum_right unused_clear elements laid unpacked little crc32 fold byte bits shifted known width_of widths delta zigzag
samples =
    record {
      nine_elements = refl;
      eleven_elements = refl;
      past_aword = refl;
      no_elements = refl;
      with_checksum = refl;
      too_many = refl;
      longer = refl;
      no_checksum = refl;
      wrong_checksum = refl;
      unused_bit = refl;
    }
