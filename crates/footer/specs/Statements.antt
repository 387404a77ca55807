-- What the outcome of a footer's reader tells of its answer.
use Rattle.std.specs.Prelude.{ℕ, ◌≤◌, ◌≡◌}
use Rattle.footer.specs.Tables.{outcome_of}
use Rattle.footer.specs.Answer.{FooterAnswer}
use Rattle.std.specs.Prelude.{Ok, Err}

-- a refusal names an envelope; envelopes are numbered from 1
abbrev pub Named : FooterAnswer → Type 0
Named (Ok counts) = Unit {0}
Named (Err why) = 1 ≤ why.envelope

-- two answers that say the same are the same
unfoldable pub OutcomeTells : Type 0
OutcomeTells = (a b : FooterAnswer) → Named a → Named b → outcome_of a ≡ outcome_of b → a ≡ b
