-- Multiples of the polynomial with few terms: for each of the words after a word, the shifts by which it is put on that word.
-- The lists were searched for; antt computes that they are what they should be.
use mathlib.Core.Path.{refl}
use mathlib.Core.List.{List, [], ◌∷◌}
use Prim.Native.Nat.{ℕ}
use Rattle.checksum.specs.Crc.{shifted, bits}
use Rattle.checksum.proofs.Spread.{below, room, inside, after, afters}
use Rattle.checksum.proofs.Turn.{Multiple}

abbrev pub shifts_6 : List (List ℕ)
shifts_6 = [] ∷ (17 ∷ 55 ∷ []) ∷ (19 ∷ []) ∷ (44 ∷ []) ∷ []

pub multiple_6 : Multiple 5 shifts_6
unfolding shifted bits below room inside after afters
multiple_6 = record { within = tt; same = refl; fits = λ b c d e. tt }

abbrev pub shifts_5 : List (List ℕ)
shifts_5 = [] ∷ (53 ∷ []) ∷ (7 ∷ 63 ∷ []) ∷ (7 ∷ 18 ∷ []) ∷ []

pub multiple_5 : Multiple 4 shifts_5
unfolding shifted bits below room inside after afters
multiple_5 = record { within = tt; same = refl; fits = λ b c d e. tt }

abbrev pub shifts_4 : List (List ℕ)
shifts_4 = [] ∷ (1 ∷ 10 ∷ 22 ∷ 41 ∷ 55 ∷ []) ∷ (20 ∷ []) ∷ []

pub multiple_4 : Multiple 3 shifts_4
unfolding shifted bits below room inside after afters
multiple_4 = record { within = tt; same = refl; fits = λ b c d e. tt }

abbrev pub shifts_3 : List (List ℕ)
shifts_3 = (13 ∷ 16 ∷ 24 ∷ 47 ∷ 62 ∷ []) ∷ (3 ∷ 11 ∷ []) ∷ []

pub multiple_3 : Multiple 2 shifts_3
unfolding shifted bits below room inside after afters
multiple_3 = record { within = tt; same = refl; fits = λ b c d e. tt }

abbrev pub shifts_2 : List (List ℕ)
shifts_2 = (1 ∷ 2 ∷ 3 ∷ 4 ∷ 7 ∷ 17 ∷ 19 ∷ 21 ∷ 23 ∷ 26 ∷ 27 ∷ 30 ∷ 31 ∷ []) ∷ []

pub multiple_2 : Multiple 1 shifts_2
unfolding shifted bits below room inside after afters
multiple_2 = record { within = tt; same = refl; fits = λ b c d e. tt }
