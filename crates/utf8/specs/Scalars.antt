-- What the table means: the bytes are the encodings of Unicode scalar values, one after the other, in one way only.
use Rattle.std.specs.Prelude.{ℕ, ◌+◌, ◌/◌, ◌%◌, ◌≡◌, ◌↔◌, List, [], ◌∷◌, Bool, true, ltb, leb}
use Rattle.numbers.specs.Choice.{pick, both}
use Rattle.numbers.specs.Rows.{flat}
use Rattle.utf8.specs.WellFormed.{well_formed}

-- a Unicode scalar value: any code point but the surrogates
abbrev pub scalar : ℕ → Bool
scalar c = pick (leb c 0xD7FF) true (both (leb 0xE000 c) (leb c 0x10FFFF))

unfoldable pub scalars : List ℕ → Bool
scalars [] = true
scalars (c ∷ cs) = both (scalar c) (scalars cs)

-- the encoding of a scalar value: as few bytes as hold its bits, six of them in each byte after the first
unfoldable pub encoded : ℕ → List ℕ
encoded c =
    pick (ltb c 0x80) (c ∷ [])
    (pick (ltb c 0x800) ((0xC0 + c / 64) ∷ (0x80 + c % 64) ∷ [])
    (pick (ltb c 0x10000) ((0xE0 + c / 4096) ∷ (0x80 + c / 64 % 64) ∷ (0x80 + c % 64) ∷ [])
    ((0xF0 + c / 262144) ∷ (0x80 + c / 4096 % 64) ∷ (0x80 + c / 64 % 64) ∷ (0x80 + c % 64) ∷ [])))

-- the scalar values that the bytes encode
pub record Text (s : List ℕ) : Type 0 where
  pub values : List ℕ
  pub good : scalars values ≡ true
  pub is : flat encoded values ≡ s

-- bytes are well-formed exactly when they encode scalar values, and they encode one list of them only
pub record WellFormedExactly : Type 0 where
  pub encodes : (s : List ℕ) → (well_formed s ≡ true) ↔ Text s
  pub unique : (s : List ℕ) (t u : Text s) → t.values ≡ u.values
