use Rattle.rows.specs.Tables.{columns_in}
use Rattle.totals.proofs.TotalLaws.{Passed}
use Rattle.totals.proofs.totals_of.Given as goal

abbrev pub invariant-loop-f : goal.invariant-loop-f
invariant-loop-f l = Passed l.entries (columns_in l.columns l.n) l.sums l.parents l.flags l.f
