-- Lengths, counted up to one more than an envelope's ceiling.
use Rattle.std.specs.Prelude.{ℕ, suc, leb}
use Rattle.numbers.specs.Choice.{pick}
use Rattle.envelope.specs.Envelope.{ceiling}

-- a length, or one more than the ceiling where it is above that
unfoldable pub capped : ℕ → ℕ
capped n = pick (leb n ceiling) n (suc ceiling)
