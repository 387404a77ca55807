use Rattle.std.proofs.Common.{ℕ, ◌<◌}
use Rattle.verdicts.proofs.refused.first_of_rows.Given as goal

abbrev pub invariant-loop-i : goal.invariant-loop-i
invariant-loop-i g l = (k : ℕ) → k < l.i → g.R.RowVerdicts.gives l.rows k 0
