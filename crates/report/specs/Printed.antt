-- Theorems on what the program prints.
use Rattle.std.specs.Prelude.{ℕ, ◌<◌, List, [], ◌∷◌, ◌≡◌, length, Err}
use Rattle.decimals.specs.Decimal.{text}
use Rattle.rows.specs.Words.{full_fields, full_columns, full_aliases}
use Rattle.wire.specs.Reading.{Step}
use Rattle.header.specs.Header.{Header}
use Rattle.header.specs.Tables.{header_of, answer}
use Rattle.header.specs.Answer.{HeaderAnswer}
use Rattle.report.specs.Program.{most_bytes, verdict, printed}

-- the answer where the lent tables have room for all the rows that a header may have
abbrev pub full_answer : Step Header → HeaderAnswer
full_answer = answer full_fields full_columns full_aliases

-- full tables have room for every header that is accepted
abbrev pub FullTablesSuffice : Type 0
FullTablesSuffice = (e : List ℕ) → full_answer (header_of e) ≡ verdict (header_of e)

-- so the number for too little room is never answered
abbrev pub NeverTwenty : Type 0
NeverTwenty = (e : List ℕ) → full_answer (header_of e) ≡ Err 20 → ⊥

-- the whole output for the smallest header, for no input, and for more input than is read

abbrev smallest_header : List ℕ
smallest_header =
    1 ∷ 0 ∷ 1 ∷ 0
    ∷ 0 ∷ 0 ∷ 0 ∷ 0 ∷ 0 ∷ 0 ∷ 0 ∷ 0 ∷ 0 ∷ 0 ∷ 0 ∷ 0 ∷ 0 ∷ 0 ∷ 0 ∷ 0
    ∷ 248 ∷ 255 ∷ 255 ∷ 255 ∷ 0 ∷ 0 ∷ 0 ∷ 0 ∷ 248 ∷ 255 ∷ 255 ∷ 255 ∷ 0 ∷ 0 ∷ 0 ∷ 0 ∷ 248 ∷ 255 ∷ 255 ∷ 255 ∷ 0 ∷ 0 ∷ 0 ∷ 0
    ∷ 104 ∷ 189 ∷ 182 ∷ 27 ∷ []

abbrev pub SmallestHeader : Type 0
SmallestHeader = printed smallest_header ≡ text "1 accepted 0 fields 0 columns 0 aliases\n"

abbrev pub EmptyInput : Type 0
EmptyInput = printed [] ≡ text "1 refused 2\n"

abbrev pub LongerInput : Type 0
LongerInput = (input : List ℕ) → most_bytes < length input → printed input ≡ text "1 longer than 65536\n"
