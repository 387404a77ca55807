-- The starred cases hold, by computing the whole table.
use mathlib.Core.Path.{refl}
use Rattle.numbers.specs.Numbers.{little}
use Rattle.column_type.specs.Types.{widths, known, width_of, split, delta, zigzag}
use Rattle.frames.specs.Frames.{record_of, list_of, items, frame_size, record_head, list_stop, count_judged}
use Rattle.coding.specs.Layout.{deltas, zigzagged, planes}
use Rattle.page_rules.specs.Page.{bytes}
use Rattle.coding.specs.Signed.{to_bits, from_bits, to_zigzag}
use Rattle.starred_cases.specs.Starred.{hold, StarredCases}

pub starred_cases : StarredCases
unfolding hold record_of list_of items frame_size record_head list_stop count_judged little deltas zigzagged planes bytes to_bits widths known width_of split delta zigzag to_zigzag from_bits
starred_cases = refl
