-- Two headers, and what every call on them leaves: that not everything is refused, and that a row is the row of its field.
use Rattle.std.specs.Prelude.{ℕ, ◌≤◌, List, [], ◌∷◌, ◌++◌, ◌≡◌, length, drop}
use Rattle.rows.specs.Words.{field_width}
use Rattle.header.specs.Tables.{header_of, Answered}
use Rattle.header.specs.Answer.{HeaderAnswer}
use Rattle.std.specs.Prelude.{Ok}

-- the smallest header: no feature, two empty strings, three empty lists
abbrev pub smallest_header : List ℕ
smallest_header =
    1 ∷ 0 ∷ 1 ∷ 0 ∷ 0 ∷ 0 ∷ 0 ∷ 0 ∷ 0 ∷ 0 ∷ 0 ∷ 0 ∷ 0 ∷ 0 ∷ 0 ∷ 0 ∷ 0 ∷ 0 ∷ 0 ∷ 0 ∷ 248 ∷ 255 ∷ 255 ∷ 255 ∷ 0 ∷ 0 ∷ 0 ∷ 0 ∷ 248 ∷
    255 ∷ 255 ∷ 255 ∷ 0 ∷ 0 ∷ 0 ∷ 0 ∷ 248 ∷ 255 ∷ 255 ∷ 255 ∷ 0 ∷ 0 ∷ 0 ∷ 0 ∷ 104 ∷ 189 ∷ 182 ∷ 27 ∷ []

-- it is accepted with empty tables, whatever is lent
abbrev pub SmallestHeader : Type 0
SmallestHeader =
    (f f' c c' a a' : List ℕ) (r : HeaderAnswer) → Answered (header_of smallest_header) f f' c c' a a' r
    → (r ≡ Ok (record { texts = record { name = record { place = 16; len = 0 }; description = record { place = 20; len = 0 } }; fields = 0; columns = 0; aliases = 0 }))
    × (f' ≡ f) × (c' ≡ c) × (a' ≡ a)

-- a header with one field: versions 2 and 3, its own parent, role 1, five times, named "ab", of type "T", described by "d"
abbrev pub header_with_one_field : List ℕ
header_with_one_field =
    1 ∷ 0 ∷ 1 ∷ 0 ∷ 0 ∷ 0 ∷ 0 ∷ 0 ∷ 0 ∷ 0 ∷ 0 ∷ 0 ∷ 0 ∷ 0 ∷ 0 ∷ 0 ∷ 0 ∷ 0 ∷ 0 ∷ 0 ∷ 200 ∷ 255 ∷ 255 ∷ 255 ∷ 1 ∷ 0 ∷ 0 ∷ 0 ∷ 48 ∷
    0 ∷ 0 ∷ 0 ∷ 2 ∷ 0 ∷ 0 ∷ 0 ∷ 3 ∷ 0 ∷ 0 ∷ 0 ∷ 0 ∷ 0 ∷ 0 ∷ 0 ∷ 1 ∷ 0 ∷ 1 ∷ 0 ∷ 5 ∷ 0 ∷ 0 ∷ 0 ∷ 0 ∷ 0 ∷ 0 ∷ 0 ∷ 2 ∷ 0 ∷ 0 ∷ 0 ∷
    97 ∷ 98 ∷ 1 ∷ 0 ∷ 0 ∷ 0 ∷ 84 ∷ 0 ∷ 0 ∷ 0 ∷ 0 ∷ 1 ∷ 0 ∷ 0 ∷ 0 ∷ 100 ∷ 248 ∷ 255 ∷ 255 ∷ 255 ∷ 0 ∷ 0 ∷ 0 ∷ 0 ∷ 248 ∷ 255 ∷ 255 ∷
    255 ∷ 0 ∷ 0 ∷ 0 ∷ 0 ∷ 138 ∷ 0 ∷ 86 ∷ 177 ∷ []

-- it is accepted with that field's row, where a row is lent
abbrev pub HeaderWithOneField : Type 0
HeaderWithOneField =
    (f f' c c' a a' : List ℕ) (r : HeaderAnswer) → field_width ≤ length f → Answered (header_of header_with_one_field) f f' c c' a a' r
    → (r ≡ Ok (record { texts = record { name = record { place = 16; len = 0 }; description = record { place = 20; len = 0 } }; fields = 1; columns = 0; aliases = 0 }))
    × (f' ≡ (2 ∷ 3 ∷ 0 ∷ 1 ∷ 1 ∷ 5 ∷ 60 ∷ 2 ∷ 66 ∷ 1 ∷ 71 ∷ 0 ∷ 75 ∷ 1 ∷ 0 ∷ []) ++ drop 15 f) × (c' ≡ c) × (a' ≡ a)
