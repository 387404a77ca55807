-- What the parts of the test answer.
use Rattle.std.specs.Prelude.{ℕ, zero, suc, ◌+◌, ◌-◌, List, [], ◌∷◌, Option, Some, None, Bool, true, false, leb, ltb, eqb, length, drop}
use Rattle.numbers.specs.Choice.{pick, both}
use Rattle.utf8.specs.WellFormed.{Range, inside, table, due}

-- every byte is below 128
unfoldable pub ascii : List ℕ → Bool
ascii [] = true
ascii (b ∷ s) = both (ltb b 128) (ascii s)

-- the bytes in front are in these ranges
unfoldable pub begins : List Range → List ℕ → Bool
begins [] s = true
begins (r ∷ rs) [] = false
begins (r ∷ rs) (b ∷ s) = both (inside r b) (begins rs s)

-- how many bytes the row in front has, 0 where no row is
unfoldable pub width : List ℕ → ℕ
width [] = 0
width (b ∷ s) = pick (begins (due table b) s) (1 + length (due table b)) 0

-- how many bytes a sequence has, if it is not ill-formed
abbrev pub sized : ℕ → Option ℕ
sized zero = None
sized (suc k) = Some (suc k)

-- the range of the second byte of a sequence of three or four: four first bytes narrow it

abbrev pub limit : ℕ → ℕ → ℕ → ℕ → ℕ → ℕ → ℕ
limit b one afterOne other afterOther plain = pick (eqb b one) afterOne (pick (eqb b other) afterOther plain)

abbrev pub least_second : ℕ → ℕ
least_second b = limit b 0xE0 0xA0 0xF0 0x90 0x80

abbrev pub most_second : ℕ → ℕ
most_second b = limit b 0xED 0x9F 0xF4 0x8F 0xBF

-- Sequences one after the other from place p on, as many as start among the next n bytes: the place after the last of them, or that one is
-- ill-formed. The ranges are those of the bytes that are due.
unfoldable pub reach : List Range → ℕ → ℕ → List ℕ → Option ℕ
reach [] zero p [] = Some p
reach [] zero p (b ∷ s) = Some p
reach [] (suc n) p [] = None
reach [] (suc n) p (b ∷ s) = reach (due table b) n (p + 1) s
reach (r ∷ rs) n p [] = None
reach (r ∷ rs) n p (b ∷ s) = pick (inside r b) (reach rs (n - 1) (p + 1) s) None

-- from a place up to another, or to the end of the sequence that crosses it
abbrev pub read_to : List ℕ → ℕ → ℕ → Option ℕ
read_to s from end = reach [] (end - from) from (drop from s)

-- one after the other
abbrev pub and_then : Option ℕ → (ℕ → Option ℕ) → Option ℕ
and_then (Some p) rest = rest p
and_then None rest = None

-- block by block, while a whole one is left: n bounds how many there are, and each starts where the one before was read to
unfoldable pub blocks_from : ℕ → List ℕ → ℕ → ℕ → Option ℕ
blocks_from zero s size at = Some at
blocks_from (suc n) s size at = pick (leb (at + size) (length s)) (and_then (read_to s at (at + size)) (blocks_from n s size)) (Some at)

-- nothing that was read is ill-formed
abbrev pub sound : Option ℕ → Bool
sound (Some p) = true
sound None = false
