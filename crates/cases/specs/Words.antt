-- The words that a case's bytes spell.
use Rattle.std.specs.Prelude.{ℕ, ◌*◌, ◌/◌, ◌%◌, List, length, ◌==◌}
use Rattle.numbers.specs.Choice.{pick}
use Rattle.numbers.specs.Numbers.{little_in}

-- word i of the bytes: again from the first where there are fewer, 0 where there is none
unfoldable pub word_at : List ℕ → ℕ → ℕ
word_at bytes i = pick (length bytes / 8 == 0) 0 (little_in 8 bytes (i % (length bytes / 8) * 8))
