-- Texts in ASCII, and numbers in decimal digits.
use Rattle.std.specs.Prelude.{ℕ, zero, suc, ◌+◌, ◌/◌, ◌%◌, List, [], ◌∷◌, ◌++◌, ltb}
use Prim.Native.Char.{code}
use Prim.Native.String.{String, [] as nothing, ◌∷◌ as ◌followed-by◌}
use Rattle.numbers.specs.Choice.{pick}

-- the bytes of a text in ASCII
abbrev pub text : String → List ℕ
text nothing = []
text (c followed-by s) = code c ∷ text s

-- a number in decimal digits, none of them a leading zero; `steps` bounds how often it is divided
unfoldable pub decimal_by : ℕ → ℕ → List ℕ
decimal_by zero n = (48 + n) ∷ []
decimal_by (suc steps) n = pick (ltb n 10) ((48 + n) ∷ []) (decimal_by steps (n / 10) ++ ((48 + n % 10) ∷ []))

-- a number is divided by ten less often than it counts
abbrev pub decimal : ℕ → List ℕ
decimal n = decimal_by n n
