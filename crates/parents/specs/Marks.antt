-- What the marks of followed chains say.
use Rattle.std.specs.Prelude.{ℕ, ◌<◌, ◌≤◌, List, true, ◌≡◌, length, get_or}
use Rattle.numbers.specs.Choice.{pick}
use Rattle.parents.specs.Parents.{reaches, is_above}

-- after the chains from the fields below s: no mark is above s, and a field that has one has a chain that ends
pub record Marked (parents marks : List ℕ) (n s : ℕ) : Type 0 where
  pub long : n ≤ length marks
  pub low : (x : ℕ) → x < n → get_or marks x 0 ≤ s
  pub ends : (x : ℕ) → x < n → (get_or marks x 0 ≡ 0 → ⊥) → reaches parents n x ≡ true

-- dark marks: 0 or 1, and above a dark field every field is dark
pub record DarkMarks (parents marks : List ℕ) (n : ℕ) : Type 0 where
  pub long : n ≤ length marks
  pub bits : (x : ℕ) → x < n → get_or marks x 0 ≤ 1
  pub up : (x : ℕ) → x < n → get_or marks x 0 ≡ 1 → get_or marks (get_or parents x 0) 0 ≡ 1

-- what making a field dark does to the marks: those of the field and of every field above it are 1, the others as they were
pub record Darkened (parents marks marks' : List ℕ) (n field : ℕ) : Type 0 where
  pub still : DarkMarks parents marks' n
  pub each : (x : ℕ) → get_or marks' x 0 ≡ pick (is_above parents n x field) 1 (get_or marks x 0)
