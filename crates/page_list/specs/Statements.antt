-- What the outcome of a page list's reader tells of its answer.
use Rattle.std.specs.Prelude.{ℕ, ◌≤◌, ◌≡◌}
use Rattle.page_list.specs.Tables.{outcome_of}
use Rattle.page_list.specs.Answer.{PageListAnswer}
use Rattle.std.specs.Prelude.{Ok, Err}

-- a refusal names an envelope; envelopes are numbered from 1
abbrev pub Named : PageListAnswer → Type 0
Named (Ok pages) = Unit {0}
Named (Err why) = 1 ≤ why.envelope

-- two answers that say the same are the same
unfoldable pub OutcomeTells : Type 0
OutcomeTells = (a b : PageListAnswer) → Named a → Named b → outcome_of a ≡ outcome_of b → a ≡ b
