-- The numbers of a plain page, a block at a time.
use Rattle.std.specs.Prelude.{ℕ, ◌==◌}
use Rattle.numbers.specs.Choice.{pick}

-- how many numbers of k bytes are a block
abbrev pub block_of : ℕ → ℕ
block_of k = pick (k == 1) 16 8
