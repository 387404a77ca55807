-- The register of the reflected CRC-32 with polynomial EDB88320, a bit at a time.
use Rattle.std.specs.Prelude.{ℕ, zero, suc, ◌/◌, ◌%◌, eqb}
use Rattle.std.specs.Int.Bits.{bit_xor}
use Rattle.numbers.specs.Choice.{pick}

-- one bit: shift right, and where a one falls out, the polynomial is put on
unfoldable pub shifted : ℕ → ℕ
shifted c = pick (eqb (c % 2) 1) (bit_xor (c / 2) 0xEDB88320) (c / 2)

unfoldable pub bits : ℕ → ℕ → ℕ
bits zero c = c
bits (suc k) c = bits k (shifted c)

-- one byte, its eight bits from the least significant
unfoldable pub byte : ℕ → ℕ → ℕ
byte c b = bits 8 (bit_xor c b)
