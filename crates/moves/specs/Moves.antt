-- What the call that counts moves answers.
use Rattle.std.specs.Prelude.{[], ◌∷◌, ◌≡◌}
use Rattle.wire.specs.Reading.{Step, found, refused}
use Rattle.outcome.specs.Outcome.{Outcome, accepted_with, refused_in}
use Rattle.chain_moves.specs.Moves.{all_moves}
use Rattle.header.specs.Header.{Header}
use Rattle.header.specs.Tables.{parents_of}
use Rattle.moves.specs.Answer.{MovesAnswer}
use Rattle.std.specs.Prelude.{Ok, Err}

-- for an accepted header, the sum over all fields of the moves from the field to its self-parented top
unfoldable pub answer : Step Header → MovesAnswer
answer (found h p) = Ok (all_moves (parents_of h.lists.fields))
answer (refused f) = Err f.number

-- the answer in document 01's terms

abbrev pub outcome_of : MovesAnswer → Outcome
outcome_of (Ok total) = accepted_with (total ∷ [])
outcome_of (Err n) = refused_in 1 n 1

abbrev pub reported : Step Header → Outcome
reported x = outcome_of (answer x)

-- all that a call leaves
pub record Answered (x : Step Header) (r : MovesAnswer) : Type 0 where
  pub answers : r ≡ answer x
  pub reports : outcome_of r ≡ reported x
