-- Bytes stored into lent bytes.
use Rattle.std.specs.Prelude.{ℕ, ◌+◌, ◌≤◌, List, ◌≡◌, length}
use Rattle.std.proofs.lemmas.List.Edits.{sets}
use Rattle.numbers.specs.Rows.{over}
use Rattle.writing.specs.Piece.{Piece}

-- what a call leaves that stores bytes from a place on: where there is room, these bytes stand there, nothing else has changed, and the
-- answer is the place after them
pub record Stored (old : List ℕ) (at : ℕ) (bytes new : List ℕ) (end : ℕ) : Type 0 where
  pub onward : at ≤ end
  pub done : at + length bytes ≤ length old → (new ≡ sets old at bytes) × (end ≡ at + length bytes)

-- the bytes of a piece stand in front of lent bytes, and those beyond are as they were, where there is room for them
abbrev pub InFront : Piece → List ℕ → List ℕ → Type 0
InFront x old new = length x.bytes ≤ length old → new ≡ over x.bytes old
