-- How many moves, from a field to its parent and so on, the self-parented field of each chain is away.
use Rattle.std.specs.Prelude.{ℕ, zero, suc, ◌+◌, List, length, get_or, take, Option, Some, None}
use Rattle.numbers.specs.Choice.{pick}
use Rattle.parents.specs.Parents.{inside, top_level, reaches, endless}
use Rattle.rows.specs.declared.FieldNumber.{FieldNumber}

-- how many moves from f its self-parented field is away, counted up to k
unfoldable pub moves : List ℕ → ℕ → ℕ → ℕ
moves parents zero f = 0
moves parents (suc k) f = pick (top_level parents f) 0 (suc (moves parents k (get_or parents f 0)))

-- the sum of the moves from the fields below m, each counted up to k
unfoldable pub total_moves : List ℕ → ℕ → ℕ → ℕ
total_moves parents k zero = 0
total_moves parents k (suc m) = total_moves parents k m + moves parents k m

-- the sum of the moves from all fields; as many moves as there are fields are enough to count to
unfoldable pub all_moves : List ℕ → ℕ
all_moves parents = total_moves parents (length parents) (length parents)

-- the sum where every chain ends
abbrev pub moves_where : ℕ → Option FieldNumber → ℕ
moves_where total None = total
moves_where total (Some f) = 0

-- the moves of the first n of some parents; 0 where a chain never ends or a parent is none of the n fields
unfoldable pub moves_of : List ℕ → ℕ → ℕ
moves_of parents n = pick (inside parents n) (moves_where (total_moves (take n parents) n n) (endless (take n parents) n n)) 0

-- what the chain from f says among n fields
unfoldable pub climbed : List ℕ → ℕ → ℕ → Option ℕ
climbed parents n f = pick (reaches parents n f) (Some (moves parents n f)) None
