-- A number that is handed in as text: decimal digits and nothing else, at least one, and no more than 64 bits hold.
use Rattle.std.specs.Prelude.{ℕ, ◌+◌, ◌*◌, ◌-◌, ◌^◌, List, [], ◌∷◌, ltb, leb, Option, Some, None}
use Rattle.numbers.specs.Choice.{pick, both}

-- with one digit more behind it
unfoldable pub with_digit : Option ℕ → ℕ → Option ℕ
with_digit (Some n) byte = pick (both (leb 48 byte) (leb byte 57)) (pick (ltb (10 * n + (byte - 48)) (2 ^ 64)) (Some (10 * n + (byte - 48))) None) None
with_digit None byte = None

-- with all of these behind it
unfoldable pub with_digits : Option ℕ → List ℕ → Option ℕ
with_digits x [] = x
with_digits x (byte ∷ rest) = with_digits (with_digit x byte) rest

unfoldable pub numeral : List ℕ → Option ℕ
numeral [] = None
numeral (byte ∷ rest) = with_digits (Some 0) (byte ∷ rest)
