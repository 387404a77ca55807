use mathlib.Core.Path.{◌≡◌}
use lib.ListN.{length, take}
use Rattle.figure_rules.specs.Report.{added}
use Rattle.page_list_report.proofs.sums.add_all.Given as goal

abbrev pub invariant-loop-k : goal.invariant-loop-k
invariant-loop-k l = (length l.report ≡ length l.initial.report) × (l.report ≡ added (take l.k l.figures) l.initial.report)
