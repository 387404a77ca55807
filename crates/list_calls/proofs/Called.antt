-- What the call leaves, from what the listing below it left.
use Prim.Native.Nat.{ℕ, ◌≤◌, ◌<◌}
use mathlib.Core.Path.{◌≡◌, refl}
use mathlib.Core.List.{List}
use lib.ListN.{length}
use Rattle.numbers.specs.Rows.{put}
use Rattle.outcome.specs.Outcome.{code_of}
use Rattle.listing.specs.Answers.{Answered, outcome_of}
use Rattle.listing.specs.Answer.{ListAnswer}
use Rattle.answers.specs.Handed.{short_result}
use Rattle.answers.proofs.HandedLaws.{given_room, given_short, hands_nothing, tells}
use Rattle.list_calls.specs.Calls.{ListCall}
use Rattle.std.specs.Prelude.{Ok, Err}

list_words : (r : ListAnswer) → length (outcome_of r).counts ≡ 1
list_words (Ok long) = refl
list_words (Err number) = refl

pub list_short : (e out w : List ℕ) → length w < 1 → ListCall e out out w w short_result
list_short e out w short = record { hands_over = hands_nothing 1 _ _ w short; bytes_are = given_short 1 w _ _ short }

pub list_called : {e out₀ out w₀ w : List ℕ} {r : ListAnswer} {code : ℕ} → 1 ≤ length w₀ → Answered e out₀ out r
    → code ≡ code_of (outcome_of r) → w ≡ put w₀ 0 (outcome_of r).counts → ListCall e out₀ out w₀ w code
list_called {w₀ = w₀} {r = r} fits left is stored =
    record { hands_over = tells 1 fits (list_words r) left.reports is stored; bytes_are = given_room 1 w₀ _ _ fits left.bytes_are }
