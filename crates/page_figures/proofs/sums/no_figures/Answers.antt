use mathlib.Core.Path.{refl}
use Rattle.pages.specs.Pages.{elements_of}
use Rattle.figure_rules.specs.Report.{sizes_of, checksums_of}
use Rattle.page_figures.proofs.sums.no_figures.Goals as goal

pub returns : goal.returns
unfolding elements_of sizes_of checksums_of
returns c = refl
