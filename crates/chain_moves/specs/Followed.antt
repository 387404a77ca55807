-- What is known of the chains that have been followed, while their moves are counted.
use Rattle.std.specs.Prelude.{ℕ, ◌+◌, ◌<◌, ◌≤◌, List, ◌≡◌, length, get_or, None}
use Rattle.parents.specs.Parents.{endless}
use Rattle.parents.specs.Marks.{Marked}
use Rattle.chain_moves.specs.Moves.{moves}

-- after the chains from the fields below s, with their moves: each field that has been followed is marked with one more than the number of
-- the field from which it was, and has beside its mark how many moves from there it is
pub record Followed (parents marks steps : List ℕ) (n s : ℕ) : Type 0 where
  pub marked : Marked parents marks n s
  pub long : n ≤ length steps
  pub apart : (x t : ℕ) → x < n → get_or marks x 0 ≡ t + 1 → moves parents n x + get_or steps x 0 ≡ moves parents n t

-- each chain from a field below s ends, and the moves of it are known
pub record Known (parents depths : List ℕ) (n s : ℕ) : Type 0 where
  pub long : n ≤ length depths
  pub end : endless parents n s ≡ None
  pub depth : (t : ℕ) → t < s → get_or depths t 0 ≡ moves parents n t
