use mathlib.Core.Path.{◌≡◌}
use mathlib.Core.Bool.{true}
use lib.ListN.{take}
use Rattle.figure_rules.specs.Report.{sums_fit}
use Rattle.page_list_report.proofs.sums.all_fit.Given as goal

abbrev pub invariant-loop-i : goal.invariant-loop-i
invariant-loop-i l = sums_fit (take l.i l.figures) l.report ≡ true
