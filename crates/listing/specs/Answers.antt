-- What the listing of a header answers, and what the lent bytes then hold.
use Rattle.std.specs.Prelude.{ℕ, List, [], ◌∷◌, ◌≡◌, length, leb}
use Rattle.numbers.specs.Choice.{pick}
use Rattle.numbers.specs.Rows.{over}
use Rattle.wire.specs.Reading.{Step, found, refused}
use Rattle.outcome.specs.Outcome.{Outcome, accepted_with, refused_in}
use Rattle.header.specs.Header.{Header}
use Rattle.header.specs.Tables.{header_of}
use Rattle.listing.specs.Lines.{listing}
use Rattle.listing.specs.Answer.{ListAnswer}
use Rattle.std.specs.Prelude.{Ok, Err}

-- bytes that are to be written into so much room, and the lent bytes then: these bytes in front where there is room, else as they were

unfoldable pub fitted : ℕ → List ℕ → ListAnswer
fitted room bytes = pick (leb (length bytes) room) (Ok (length bytes)) (Err 20)

unfoldable pub placed : List ℕ → List ℕ → List ℕ
placed old bytes = pick (leb (length bytes) (length old)) (over bytes old) old

-- the answer for an envelope e and its header, for so many lent bytes
unfoldable pub answer : ℕ → List ℕ → Step Header → ListAnswer
answer room e (found h p) = fitted room (listing e h.lists)
answer room e (refused f) = Err f.number

-- the lent bytes after the call
unfoldable pub left : List ℕ → List ℕ → Step Header → List ℕ
left old e (found h p) = placed old (listing e h.lists)
left old e (refused f) = old

-- the answer in document 01's terms: the envelope and the number of a refusal, and how many bytes were written

abbrev pub outcome_of : ListAnswer → Outcome
outcome_of (Ok n) = accepted_with (n ∷ [])
outcome_of (Err n) = refused_in 1 n 1

-- the outcome that is due, for so many lent bytes
abbrev pub reported : ℕ → List ℕ → Outcome
reported room e = outcome_of (answer room e (header_of e))

-- all that a call leaves
pub record Answered (e out₀ out : List ℕ) (r : ListAnswer) : Type 0 where
  pub answers : r ≡ answer (length out₀) e (header_of e)
  pub reports : outcome_of r ≡ reported (length out₀) e
  pub bytes_are : out ≡ left out₀ e (header_of e)
