-- Headers whose fields are one chain: the first is its own parent, and each other has the one before it as its parent.
use Rattle.std.specs.Prelude.{ℕ, ◌≤◌, List, [], ◌∷◌, map, ◌≡◌}
use Rattle.rows.specs.Words.{most_fields}
use Rattle.chain_moves.specs.Distances.{most_moves, chain_of}
use Rattle.header.specs.Tables.{header_of}
use Rattle.moves.specs.Moves.{Answered}
use Rattle.moves.specs.Answer.{MovesAnswer}
use Rattle.tree.specs.HeaderTree.{FieldContent, HeaderContent, render_header}
use Rattle.tree.specs.Spelling.{standard}
use Rattle.std.specs.Prelude.{Ok}

-- a field with this parent, and else zeros and empty strings
abbrev pub plain_field : ℕ → FieldContent
plain_field parent =
    record {
      head = record { field_version = 0; type_version = 0; parent = record { 0 = parent }; role = 0; flags = 0; repetition = 0 };
      texts = record { name = []; type_name = []; type_alias = []; description = [] };
    }

-- a header of n such fields
abbrev pub chain_content : ℕ → HeaderContent
chain_content n = record { name = []; description = []; fields = map plain_field (chain_of n); columns = []; aliases = [] }

-- its bytes
abbrev pub chain_header : ℕ → List ℕ
chain_header n = render_header (standard (chain_content n))

-- For each number of fields that a header may have, such a header is accepted, and every call for it answers with n (n - 1) / 2: no
-- smaller cap would do.
abbrev pub CapReached : Type 0
CapReached = (n : ℕ) → n ≤ most_fields → (r : MovesAnswer) → Answered (header_of (chain_header n)) r → r ≡ Ok (most_moves n)

-- the bytes of three fields
abbrev pub chain_of_three : List ℕ
chain_of_three =
    1 ∷ 0 ∷ 1 ∷ 0 ∷ 0 ∷ 0 ∷ 0 ∷ 0 ∷ 0 ∷ 0 ∷ 0 ∷ 0 ∷ 0 ∷ 0 ∷ 0 ∷ 0 ∷ 0 ∷ 0 ∷ 0 ∷ 0 ∷ 140 ∷ 255 ∷ 255 ∷ 255 ∷ 3 ∷ 0 ∷ 0 ∷ 0 ∷ 36 ∷ 0 ∷ 0 ∷
    0 ∷ 0 ∷ 0 ∷ 0 ∷ 0 ∷ 0 ∷ 0 ∷ 0 ∷ 0 ∷ 0 ∷ 0 ∷ 0 ∷ 0 ∷ 0 ∷ 0 ∷ 0 ∷ 0 ∷ 0 ∷ 0 ∷ 0 ∷ 0 ∷ 0 ∷ 0 ∷ 0 ∷ 0 ∷ 0 ∷ 0 ∷ 0 ∷ 0 ∷ 0 ∷ 0 ∷ 0 ∷ 0 ∷
    36 ∷ 0 ∷ 0 ∷ 0 ∷ 0 ∷ 0 ∷ 0 ∷ 0 ∷ 0 ∷ 0 ∷ 0 ∷ 0 ∷ 0 ∷ 0 ∷ 0 ∷ 0 ∷ 0 ∷ 0 ∷ 0 ∷ 0 ∷ 0 ∷ 0 ∷ 0 ∷ 0 ∷ 0 ∷ 0 ∷ 0 ∷ 0 ∷ 0 ∷ 0 ∷ 0 ∷ 0 ∷ 0 ∷
    0 ∷ 0 ∷ 0 ∷ 36 ∷ 0 ∷ 0 ∷ 0 ∷ 0 ∷ 0 ∷ 0 ∷ 0 ∷ 0 ∷ 0 ∷ 0 ∷ 0 ∷ 1 ∷ 0 ∷ 0 ∷ 0 ∷ 0 ∷ 0 ∷ 0 ∷ 0 ∷ 0 ∷ 0 ∷ 0 ∷ 0 ∷ 0 ∷ 0 ∷ 0 ∷ 0 ∷ 0 ∷ 0 ∷
    0 ∷ 0 ∷ 0 ∷ 0 ∷ 0 ∷ 0 ∷ 248 ∷ 255 ∷ 255 ∷ 255 ∷ 0 ∷ 0 ∷ 0 ∷ 0 ∷ 248 ∷ 255 ∷ 255 ∷ 255 ∷ 0 ∷ 0 ∷ 0 ∷ 0 ∷ 15 ∷ 13 ∷ 226 ∷ 238 ∷ []

-- computed: these are the bytes, and the moves are 0, 1 and 2
pub record ComputedChain : Type 0 where
  pub bytes : chain_header 3 ≡ chain_of_three
  pub three : (r : MovesAnswer) → Answered (header_of chain_of_three) r → r ≡ Ok 3
