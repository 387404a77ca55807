-- Worked calls on a report, computed.
-- Assumes nothing.
use mathlib.Core.Path.{refl}
use Rattle.numbers.specs.Rows.{flat}
use Rattle.pages.specs.Pages.{elements_of}
use Rattle.figure_rules.specs.Report.{sizes_of, checksums_of, added, sums_fit, placed, taken, reported}
use Rattle.figure_rules.specs.Samples.{Samples}

pub samples : Samples
unfolding reported taken placed added sums_fit flat elements_of sizes_of checksums_of
samples =
    record {
      figures = refl;
      first = refl;
      second = refl;
      refused_list = refl;
      refused_header = refl;
      too_few_rows = refl;
      refusal_first = refl;
      greatest_figure = refl;
      figure_past = refl;
      last_list = refl;
      last_refused = refl;
      list_too_many = refl;
      rows_later = refl;
      greatest_counts = refl;
      no_columns = refl;
    }
