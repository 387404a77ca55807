-- The starred cases of document 01, "Either side of the line", as one table: what the rules give beside what the document says.
use Rattle.std.specs.Prelude.{ℕ, List, [], ◌∷◌, Bool, true, false, ◌≡◌, ℤ, pos, negsuc, eqb}
use Rattle.numbers.specs.Choice.{both}
use Rattle.wire.specs.Reading.{Step, found, refused, Rule, give}
use Rattle.frames.specs.Frames.{record_of, list_of, at_most}
use Rattle.coding.specs.Layout.{deltas, zigzagged, planes}
use Rattle.page_rules.specs.Page.{bytes}
use Rattle.coding.specs.Signed.{to_bits}

-- what a step says: 0 and the place after it, or the number of the refusal
abbrev pub says : {A : Type 0} → Step A → List ℕ
says (found a place) = 0 ∷ place ∷ []
says (refused f) = f.number ∷ []

-- a list, and a record, with nothing in it; strict: no spare bytes
abbrev pub empty_list : Rule (List (Unit {0}))
empty_list = list_of true (at_most 0) (λ _ _. give tt)

abbrev pub empty_record : Rule (Unit {0})
empty_record = record_of true (give tt)

-- zigzag of a signed element of 16 bits
abbrev pub zigzag16 : ℤ → List ℕ
zigzag16 x = zigzagged 16 (to_bits 16 x) ∷ []

-- a case: what the rules give, and what document 01 says
pub record Case : Type 0 where
  pub gives : List ℕ
  pub due : List ℕ

abbrev pub starred : List Case
starred =
    -- size word FFFFFFF8, items 0: an empty list
    record { gives = says (empty_list (0xF8 ∷ 0xFF ∷ 0xFF ∷ 0xFF ∷ 0 ∷ 0 ∷ 0 ∷ 0 ∷ []) 0); due = 0 ∷ 8 ∷ [] } ∷
    -- size word 00000004: an empty record
    record { gives = says (empty_record (4 ∷ 0 ∷ 0 ∷ 0 ∷ []) 0); due = 0 ∷ 4 ∷ [] } ∷
    -- size word FFFFFFFC where a list is due: 8
    record { gives = says (empty_list (0xFC ∷ 0xFF ∷ 0xFF ∷ 0xFF ∷ 0 ∷ 0 ∷ 0 ∷ 0 ∷ []) 0); due = 8 ∷ [] } ∷
    -- size word 80000000 where a list is due: 7
    record { gives = says (empty_list (0 ∷ 0 ∷ 0 ∷ 0x80 ∷ 0 ∷ 0 ∷ 0 ∷ 0 ∷ []) 0); due = 7 ∷ [] } ∷
    -- zigzag at 16 bits: 0 to 0, -1 to 1, 1 to 2, 32767 to 65534, -32768 to 65535
    record { gives = zigzag16 (pos 0); due = 0 ∷ [] } ∷
    record { gives = zigzag16 (negsuc 0); due = 1 ∷ [] } ∷
    record { gives = zigzag16 (pos 1); due = 2 ∷ [] } ∷
    record { gives = zigzag16 (pos 32767); due = 65534 ∷ [] } ∷
    record { gives = zigzag16 (negsuc 32767); due = 65535 ∷ [] } ∷
    -- Index32 values 1, 1, 3 as 0F: bytes 01 00 02, then nine 00
    record { gives = bytes 0x0F (1 ∷ 1 ∷ 3 ∷ []); due = 1 ∷ 0 ∷ 2 ∷ 0 ∷ 0 ∷ 0 ∷ 0 ∷ 0 ∷ 0 ∷ 0 ∷ 0 ∷ 0 ∷ [] } ∷
    -- deltas of 5, 3 at 32 bits: 5, 4294967294
    record { gives = deltas 32 0 (5 ∷ 3 ∷ []); due = 5 ∷ 4294967294 ∷ [] } ∷
    -- 16-bit 1234, ABCD (hex) split: 34 CD 12 AB
    record { gives = planes 2 (0x1234 ∷ 0xABCD ∷ []); due = 0x34 ∷ 0xCD ∷ 0x12 ∷ 0xAB ∷ [] } ∷ []

abbrev pub same : List ℕ → List ℕ → Bool
same [] [] = true
same [] (y ∷ ys) = false
same (x ∷ xs) [] = false
same (x ∷ xs) (y ∷ ys) = both (eqb x y) (same xs ys)

-- every case gives what is due
unfoldable pub hold : List Case → Bool
hold [] = true
hold (c ∷ cs) = both (same c.gives c.due) (hold cs)

abbrev pub StarredCases : Type 0
StarredCases = hold starred ≡ true
