-- The bytes of a cluster's record.
use Rattle.std.specs.Prelude.{ℕ, Bool}
use Rattle.numbers.specs.Choice.{pick}

-- with the checksum of its page list, where these are carried
abbrev pub record_size : Bool → ℕ
record_size carried = pick carried 40 36
