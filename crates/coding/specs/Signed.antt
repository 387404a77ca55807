-- Signed elements: two's complement at a width, and zigzag. `negsuc n` is -(n + 1).
use Rattle.std.specs.Prelude.{ℕ, ◌+◌, ◌*◌, ◌-◌, ◌/◌, ◌%◌, ◌^◌, ◌<◌, ltb, eqb, ℤ, pos, negsuc}
use Rattle.numbers.specs.Choice.{pick}

-- the two's complement of an element at w bits, and the element that has it
unfoldable pub to_bits : ℕ → ℤ → ℕ
to_bits w (pos n) = n
to_bits w (negsuc n) = 2 ^ w - 1 - n

unfoldable pub from_bits : ℕ → ℕ → ℤ
from_bits w x = pick (ltb x (2 ^ (w - 1))) (pos x) (negsuc (2 ^ w - 1 - x))

-- x becomes 2x for x at least 0, else -(2x + 1)
unfoldable pub to_zigzag : ℤ → ℕ
to_zigzag (pos n) = 2 * n
to_zigzag (negsuc n) = 2 * n + 1

unfoldable pub from_zigzag : ℕ → ℤ
from_zigzag z = pick (eqb (z % 2) 0) (pos (z / 2)) (negsuc (z / 2))

-- the element is no further from 0 than w bits can say
unfoldable pub Reaches : ℕ → ℤ → Type 0
Reaches w (pos n) = n < 2 ^ w
Reaches w (negsuc n) = n < 2 ^ w
