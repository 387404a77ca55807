-- A byte placed into a word as the code does it, by its bits. The unit u is 256 to the power of the byte's number.
use Rattle.std.specs.Prelude.{ℕ, ◌+◌, ◌*◌, ◌-◌, ◌<◌, List, set, get_or}
use Rattle.std.specs.Int.Bits.{bit_and, bit_or}

-- all bits of a word but those of the byte
abbrev pub others : ℕ → ℕ
others u = 18446744073709551615 - 255 * u

-- the bits of a word that are kept, with the byte
abbrev pub joins : ℕ → ℕ → ℕ → ℕ → ℕ
joins u keep b w = bit_or (bit_and w keep) (b * u)

-- into the word at a place
abbrev pub join_at : ℕ → ℕ → ℕ → ℕ → List ℕ → List ℕ
join_at u keep b at d = set d at (joins u keep b (get_or d at 0))

-- into two, four and eight words from a place on

unfoldable pub join_two : ℕ → ℕ → ℕ → ℕ → ℕ → List ℕ → List ℕ
join_two u keep a b at d = join_at u keep b (at + 1) (join_at u keep a at d)

unfoldable pub join_four : ℕ → ℕ → ℕ → ℕ → ℕ → ℕ → ℕ → List ℕ → List ℕ
join_four u keep a b c e at d = join_two u keep c e (at + 2) (join_two u keep a b at d)

unfoldable pub join_eight : ℕ → ℕ → ℕ → ℕ → ℕ → ℕ → ℕ → ℕ → ℕ → ℕ → ℕ → List ℕ → List ℕ
join_eight u keep a b c e f g h i at d = join_four u keep f g h i (at + 4) (join_four u keep a b c e at d)

-- each is a byte
abbrev pub Octets : ℕ → ℕ → ℕ → ℕ → Type 0
Octets a b c e = (a < 256) × (b < 256) × (c < 256) × (e < 256)
