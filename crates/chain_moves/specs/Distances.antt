-- Moves with no bound on how many there are, the cap on their sum, and the chain that reaches it.
use Rattle.std.specs.Prelude.{ℕ, zero, suc, ◌+◌, ◌*◌, ◌-◌, ◌/◌, ◌≤◌, ◌<◌, List, [], ◌∷◌, ◌++◌, true, false, ◌↔◌, ◌≡◌, length}
use Rattle.parents.specs.Parents.{Inside, ancestor, top_level, all_reach}
use Rattle.chain_moves.specs.Moves.{all_moves}

-- k moves up from f stands a self-parented field, and none before it
pub record TopAfter (parents : List ℕ) (k f : ℕ) : Type 0 where
  pub top : top_level parents (ancestor parents k f) ≡ true
  pub before : (j : ℕ) → j < k → top_level parents (ancestor parents j f) ≡ false

-- the sum of a number for each field below n
unfoldable pub sum_below : (ℕ → ℕ) → ℕ → ℕ
sum_below each zero = 0
sum_below each (suc n) = sum_below each n + each n

-- the sum over all fields of the moves from the field to its self-parented top
pub record SumOfMoves (parents : List ℕ) (total : ℕ) : Type 0 where
  pub moves : ℕ → ℕ
  pub counted : (f : ℕ) → f < length parents → TopAfter parents (moves f) f
  pub sum : sum_below moves (length parents) ≡ total

-- every parent is a field, and every chain ends
pub record Rooted (parents : List ℕ) : Type 0 where
  pub fields : Inside parents (length parents)
  pub ends : all_reach parents (length parents) ≡ true

-- the most moves that n fields can have together
abbrev pub most_moves : ℕ → ℕ
most_moves n = n * (n - 1) / 2

-- a chain of n fields: the first is its own parent, and each other has the one before it as its parent
unfoldable pub chain_of : ℕ → List ℕ
chain_of zero = []
chain_of (suc n) = chain_of n ++ ((n - 1) ∷ [])

-- the number that is counted is that sum, and no other number is
abbrev pub AllMovesAsDefined : Type 0
AllMovesAsDefined = (parents : List ℕ) → Rooted parents → (total : ℕ) → (all_moves parents ≡ total) ↔ SumOfMoves parents total

-- it is at most n (n - 1) / 2 for n fields
abbrev pub AllMovesCapped : Type 0
AllMovesCapped = (parents : List ℕ) → Rooted parents → all_moves parents ≤ most_moves (length parents)

-- which a chain reaches, however long
pub record ChainReachesCap (n : ℕ) : Type 0 where
  pub long : length (chain_of n) ≡ n
  pub rooted : Rooted (chain_of n)
  pub reached : all_moves (chain_of n) ≡ most_moves n

abbrev pub ChainsReachCap : Type 0
ChainsReachCap = (n : ℕ) → ChainReachesCap n
