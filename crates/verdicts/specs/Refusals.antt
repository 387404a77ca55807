-- The first refusal of rows, in their order.
use Rattle.std.specs.Prelude.{ℕ, ◌≡◌, ◌<◌, ◌≤◌}

-- where `Gives i r` says that row i of n has number r: the first of these numbers that is not 0, or 0
pub record FirstOfRows (Gives : ℕ → ℕ → Type 0) (n number : ℕ) : Type 0 where
  -- the row that is refused, or n
  pub row : ℕ
  pub most : row ≤ n
  pub before : (k : ℕ) → k < row → Gives k 0
  pub here : row < n → Gives row number
  pub refused : (number ≡ 0 → ⊥) → row < n
  pub passed : number ≡ 0 → n ≤ row
