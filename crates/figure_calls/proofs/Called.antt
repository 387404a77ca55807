-- What a call leaves, from what the call below it left.
use Prim.Native.Nat.{ℕ, ◌≤◌, ◌<◌}
use mathlib.Core.Path.{◌≡◌, refl, ap}
use mathlib.Core.List.{List}
use lib.ListN.{length}
use Rattle.numbers.specs.Rows.{put}
use Rattle.outcome.specs.Outcome.{code_of}
use Rattle.header.specs.Beside.{Beside}
use Rattle.rows.specs.declared.PageRow.{PageRow}
use Rattle.figure_rules.specs.Answer.{ReportAnswer}
use Rattle.figure_rules.specs.Report.{outcome_of}
use Rattle.true_count.specs.Answer.{CountAnswer}
use Rattle.true_count.specs.True.{outcome_of as countOutcomeOf}
use Rattle.answers.specs.Handed.{short_result}
use Rattle.answers.proofs.HandedLaws.{given_room, given_short, hands_nothing, tells}
use Rattle.figure_calls.specs.Calls.{reported_after, ReportCall}
use Rattle.std.specs.Prelude.{Ok, Err}

report_words : (r : ReportAnswer) → length (outcome_of r).counts ≡ 2
report_words (Ok counts) = refl
report_words (Err why) = refl

pub count_words : (r : CountAnswer) → length (countOutcomeOf r).counts ≡ 1
count_words (Ok count) = refl
count_words (Err number) = refl

module _ (x : Beside (List (List PageRow))) (accepted refused : ℕ) where
  pub report_short : (o w : List ℕ) → length w < 2 → ReportCall x accepted refused o o w w short_result
  report_short o w short = record { hands_over = hands_nothing 2 _ _ w short; report_is = given_short 2 w _ _ short }

  pub report_called : {o₀ o w₀ w : List ℕ} {code : ℕ} (r : ReportAnswer) → 2 ≤ length w₀ → r ≡ (reported_after x accepted refused o₀).answer → o ≡ (reported_after x accepted refused o₀).words
      → code ≡ code_of (outcome_of r) → w ≡ put w₀ 0 (outcome_of r).counts → ReportCall x accepted refused o₀ o w₀ w code
  report_called {w₀ = w₀} r fits answer words is stored =
      record { hands_over = tells 2 fits (report_words r) (ap outcome_of answer) is stored; report_is = given_room 2 w₀ _ _ fits words }
