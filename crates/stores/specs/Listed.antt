-- A list stored around its items.
use Rattle.std.specs.Prelude.{ℕ, List, ◌^◌, ◌-◌, ◌++◌}
use denote.Ref.{MutBor}
use Rattle.tree.specs.Bytes.{spelled}
use Rattle.stores.specs.Stored.{Stored}

-- room for the head, then the items by a call, then the head
pub record Listed (Call : ℕ → MutBor (List ℕ) → ℕ → MutBor (List ℕ) → Type 0) (n : ℕ) (old : List ℕ) (at : ℕ) (new : List ℕ) (end : ℕ) : Type 0 where
  pub place : ℕ
  pub before : MutBor (List ℕ)
  pub after : MutBor (List ℕ)
  pub behind : ℕ
  pub room : Stored old at (spelled 8 0) before.now place
  pub items : Call place before end after
  pub head : Stored after.now at (spelled 4 (2 ^ 32 - (end - at)) ++ spelled 4 n) new behind
