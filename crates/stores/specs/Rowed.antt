-- Rows stored one after the other.
use Rattle.std.specs.Prelude.{ℕ, zero, suc, List, ◌≡◌}
use denote.Ref.{MutBor}

-- one row more, by a call
pub record OneMore (Before : List ℕ → ℕ → Type 0) (Call : ℕ → MutBor (List ℕ) → ℕ → MutBor (List ℕ) → Type 0) (new : List ℕ) (end : ℕ) : Type 0 where
  pub place : ℕ
  pub before : MutBor (List ℕ)
  pub after : MutBor (List ℕ)
  pub rows : Before before.now place
  pub row : Call place before end after
  pub left : after.now ≡ new

-- the first i rows, each by a call at the place after the row before it
unfoldable pub Rowed : (ℕ → ℕ → MutBor (List ℕ) → ℕ → MutBor (List ℕ) → Type 0) → (old : List ℕ) (at i : ℕ) (new : List ℕ) (end : ℕ) → Type 0
Rowed Call old at zero new end = (new ≡ old) × (end ≡ at)
Rowed Call old at (suc i) new end = OneMore (Rowed Call old at i) (Call i) new end
