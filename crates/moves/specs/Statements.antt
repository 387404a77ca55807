-- What the sum of the moves is, with no bound on them, how large it can be, and when there is none.
use Rattle.std.specs.Prelude.{ℕ, ◌≤◌, List, ◌↔◌, ◌≡◌, length}
use Rattle.wire.specs.Reading.{found}
use Rattle.chain_moves.specs.Distances.{SumOfMoves, most_moves, chain_of}
use Rattle.header.specs.Header.{Header}
use Rattle.header.specs.Tables.{header_of, parents_of}
use Rattle.header.specs.Tables.{Answered as HeaderAnswered}
use Rattle.header.specs.declared.HeaderTables.{HeaderTables}
use Rattle.header.specs.Answer.{HeaderAnswer}
use Rattle.moves.specs.Moves.{Answered}
use Rattle.moves.specs.Answer.{MovesAnswer}
use Rattle.std.specs.Prelude.{Ok, Err}

-- A call for an accepted header answers with a number exactly where it is the sum over all fields of the moves from the field to its
-- self-parented top, however many these are.
abbrev pub MovesAsDefined : Type 0
MovesAsDefined =
    (e : List ℕ) (h : Header) (p : ℕ) (r : MovesAnswer) → header_of e ≡ found h p → Answered (header_of e) r
    → (total : ℕ) → (r ≡ Ok total) ↔ SumOfMoves (parents_of h.lists.fields) total

-- It is at most n (n - 1) / 2 for n fields, 130,816 at the limit of 512.
abbrev pub MovesCapped : Type 0
MovesCapped =
    (e : List ℕ) (h : Header) (p : ℕ) (total : ℕ) → header_of e ≡ found h p → Answered (header_of e) (Ok total)
    → (total ≤ most_moves (length h.lists.fields)) × (total ≤ 130816)

-- A header whose fields are a chain reaches it, however many they are.
abbrev pub ChainMoves : Type 0
ChainMoves =
    (e : List ℕ) (h : Header) (p : ℕ) (r : MovesAnswer) → header_of e ≡ found h p → Answered (header_of e) r
    → parents_of h.lists.fields ≡ chain_of (length h.lists.fields) → r ≡ Ok (most_moves (length h.lists.fields))

-- Beside any call of the header's reader for the same envelope: where that accepts, there is a sum; a refusal is that call's, except
-- where its tables were too small, which are not asked for here.
pub record BesideReader (r : HeaderAnswer) (s : MovesAnswer) : Type 0 where
  pub accepts : (t : HeaderTables) → r ≡ Ok t → (total : ℕ) × (s ≡ Ok total)
  pub refuses : (k : ℕ) → r ≡ Err k → (k ≡ 20 → ⊥) → s ≡ Err k
  pub refused : (k : ℕ) → s ≡ Err k → r ≡ Err k

abbrev pub MovesBesideReader : Type 0
MovesBesideReader =
    (e f f' c c' a a' : List ℕ) (r : HeaderAnswer) (s : MovesAnswer) → HeaderAnswered (header_of e) f f' c c' a a' r → Answered (header_of e) s → BesideReader r s
