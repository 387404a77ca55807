-- All that a call on a report leaves: its answer, its result and the lent report.
use Rattle.std.specs.Prelude.{ℕ, List, ◌≡◌}
use Rattle.header.specs.Beside.{Beside}
use Rattle.rows.specs.declared.PageRow.{PageRow}
use Rattle.figure_rules.specs.Report.{Report, outcome_of, reported}
use Rattle.answers.specs.Handed.{given, Tells}

-- the report's rule on counts that are given one by one
abbrev pub reported_after : Beside (List (List PageRow)) → ℕ → ℕ → List ℕ → Report
reported_after x accepted refused old = reported x (record { accepted = accepted; refused = refused }) old

-- the lists accepted and refused so far; a result that is too short leaves the report as it was
pub record ReportCall (x : Beside (List (List PageRow))) (accepted refused : ℕ) (o₀ o w₀ w : List ℕ) (r : ℕ) : Type 0 where
  pub hands_over : Tells 2 (outcome_of (reported_after x accepted refused o₀).answer) w₀ w r
  pub report_is : o ≡ given 2 w₀ (reported_after x accepted refused o₀).words o₀
