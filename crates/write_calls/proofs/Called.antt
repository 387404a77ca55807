-- What a call that writes an envelope leaves, from what the writer below it left.
use Prim.Native.Nat.{ℕ, ◌≤◌, ◌<◌}
use mathlib.Core.Path.{◌≡◌, refl}
use mathlib.Core.List.{List}
use lib.ListN.{length}
use Rattle.numbers.specs.Rows.{put}
use Rattle.outcome.specs.Outcome.{code_of}
use Rattle.header.specs.Beside.{Beside}
use Rattle.writing.specs.Piece.{Piece}
use Rattle.writing.specs.Answers.{Answered, outcome_of}
use Rattle.writing.specs.Answer.{WriteAnswer}
use Rattle.answers.specs.Handed.{short_result}
use Rattle.answers.proofs.HandedLaws.{given_room, given_short, hands_nothing, tells}
use Rattle.write_calls.specs.Calls.{WriteCall}
use Rattle.std.specs.Prelude.{Ok, Err}

write_words : (r : WriteAnswer) → length (outcome_of r).counts ≡ 1
write_words (Ok long) = refl
write_words (Err why) = refl

pub write_short : (k : ℕ) (x : Beside Piece) (out w : List ℕ) → length w < 1 → WriteCall k x out out w w short_result
write_short k x out w short = record { hands_over = hands_nothing 1 _ _ w short; bytes_are = given_short 1 w _ _ short }

pub write_called : {k : ℕ} {x : Beside Piece} {out₀ out w₀ w : List ℕ} {r : WriteAnswer} {code : ℕ} → 1 ≤ length w₀ → Answered k x out₀ out r
    → code ≡ code_of (outcome_of r) → w ≡ put w₀ 0 (outcome_of r).counts → WriteCall k x out₀ out w₀ w code
write_called {w₀ = w₀} {r = r} fits left is stored =
    record {
      hands_over = tells 1 fits (write_words r) left.reports is stored;
      bytes_are = given_room 1 w₀ _ _ fits left.bytes_are;
    }
