-- Well-formed UTF-8, by the Unicode Standard's Table 3-7, "Well-Formed UTF-8 Byte Sequences".
use Rattle.std.specs.Prelude.{ℕ, List, [], ◌∷◌, Bool, true, false, leb}
use Rattle.numbers.specs.Choice.{pick, both}

infix 75 ◌to◌
infix 70 ◌then◌
-- the bytes from one to another
pub record Range : Type 0 where
  pub least : ℕ
  pub most : ℕ

abbrev pub ◌to◌ : ℕ → ℕ → Range
least to most = record { least = least; most = most }

abbrev pub inside : Range → ℕ → Bool
inside r b = both (leb r.least b) (leb b r.most)

-- a row of the table: the range of the first byte, and those of the bytes after it
pub record Row : Type 0 where
  pub first : Range
  pub rest : List Range

abbrev pub ◌then◌ : Range → List Range → Row
first then rest = record { first = first; rest = rest }

-- a byte after the first that its row does not narrow
abbrev pub trailing : Range
trailing = 0x80 to 0xBF

abbrev pub table : List Row
table =
    0x00 to 0x7F then []
    ∷ 0xC2 to 0xDF then (trailing ∷ [])
    ∷ 0xE0 to 0xE0 then (0xA0 to 0xBF ∷ trailing ∷ [])
    ∷ 0xE1 to 0xEC then (trailing ∷ trailing ∷ [])
    ∷ 0xED to 0xED then (0x80 to 0x9F ∷ trailing ∷ [])
    ∷ 0xEE to 0xEF then (trailing ∷ trailing ∷ [])
    ∷ 0xF0 to 0xF0 then (0x90 to 0xBF ∷ trailing ∷ trailing ∷ [])
    ∷ 0xF1 to 0xF3 then (trailing ∷ trailing ∷ trailing ∷ [])
    ∷ 0xF4 to 0xF4 then (0x80 to 0x8F ∷ trailing ∷ trailing ∷ [])
    ∷ []

-- a range that has no byte: what is due after a first byte that no row has
abbrev pub nothing : Range
nothing = 1 to 0

-- the ranges of the bytes that are due after a first byte: the rest of its row
unfoldable pub due : List Row → ℕ → List Range
due [] b = nothing ∷ []
due (row ∷ rows) b = pick (inside row.first b) row.rest (due rows b)

-- the bytes that are due come first, then one row after the other up to the end
unfoldable pub goes_on : List Range → List ℕ → Bool
goes_on [] [] = true
goes_on [] (b ∷ s) = goes_on (due table b) s
goes_on (r ∷ rs) [] = false
goes_on (r ∷ rs) (b ∷ s) = both (inside r b) (goes_on rs s)

unfoldable pub well_formed : List ℕ → Bool
well_formed s = goes_on [] s
