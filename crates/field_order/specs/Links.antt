-- Which fields hang on which, as rows of three numbers.
use Rattle.std.specs.Prelude.{ℕ, suc, ◌+◌, ◌*◌, ◌≤◌, ◌<◌, List, ◌≡◌, length, get_or}

-- what field k hangs on, the next field that hangs on the same, and the first field that hangs on k

abbrev pub up_in : List ℕ → ℕ → ℕ
up_in links k = get_or links (3 * k) 0

abbrev pub next_in : List ℕ → ℕ → ℕ
next_in links k = get_or links (3 * k + 1) 0

abbrev pub first_in : List ℕ → ℕ → ℕ
first_in links k = get_or links (3 * k + 2) 0

-- of n fields, r is the lowest from k on that hangs on `above`; n where there is none
pub record LowestFrom (up : ℕ → ℕ) (n above k r : ℕ) : Type 0 where
  pub most : r ≤ n
  pub onward : k ≤ r
  pub none : (j : ℕ) → k ≤ j → j < r → up j ≡ above → ⊥
  pub one : r < n → up r ≡ above

-- the fields from k on are linked: each hangs on what `up` says
pub record Linked (up : ℕ → ℕ) (n k : ℕ) (links : List ℕ) : Type 0 where
  pub long : 3 * n + 3 ≤ length links
  pub held : (j : ℕ) → k ≤ j → j < n → up_in links j ≡ up j
  pub next : (j : ℕ) → k ≤ j → j < n → LowestFrom up n (up j) (suc j) (next_in links j)
  pub first : (g : ℕ) → g ≤ n → LowestFrom up n g k (first_in links g)
