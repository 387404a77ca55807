-- The order in which fields are listed, and the level of each.
use Rattle.std.specs.Prelude.{ℕ, zero, suc, List, [], ◌∷◌, ◌++◌, length, get_or, take, eqb}
use Rattle.numbers.specs.Choice.{pick}
use Rattle.parents.specs.Parents.{inside, top_level, endless}
use Rattle.std.specs.Prelude.{Option, Some, None}
use Rattle.rows.specs.declared.FieldNumber.{FieldNumber}

-- a line to come: its field, and its level
pub record Entry : Type 0 where
  pub field : ℕ
  pub level : ℕ

-- what g gives for each number below n, smaller numbers first
unfoldable pub joined : {A : Type 0} → (ℕ → List A) → ℕ → List A
joined g zero = []
joined g (suc n) = joined g n ++ g n

-- what a field hangs on: its parent, or, where it is top-level, the number of fields, which is no field's number
abbrev pub holder : List ℕ → ℕ → ℕ
holder parents k = pick (top_level parents k) (length parents) (get_or parents k 0)

-- where field k hangs on `above`: its line, then the lines below it
abbrev pub hanging : (ℕ → ℕ) → ℕ → ℕ → List Entry → ℕ → List Entry
hanging up level above rest k = pick (eqb (up k) above) (record { field = k; level = level } ∷ rest) []

-- of n fields those that hang on `above`, smaller numbers first, each followed by those that hang on it; `left` is how many fields may
-- still stand below one another
unfoldable pub below : (ℕ → ℕ) → ℕ → ℕ → ℕ → ℕ → List Entry
below up n zero level above = []
below up n (suc left) level above = joined (λ k. hanging up level above (below up n left (suc level) k) k) n

-- one field of these
abbrev pub branch : (ℕ → ℕ) → ℕ → ℕ → ℕ → ℕ → ℕ → List Entry
branch up n left level above k = hanging up level above (below up n left (suc level) k) k

-- all fields whose parents these are: each top-level field, followed by those that hang on it
unfoldable pub order : List ℕ → List Entry
order parents = below (holder parents) (length parents) (length parents) 0 (length parents)

-- the order where every chain ends
abbrev pub order_where : List Entry → Option FieldNumber → List Entry
order_where entries None = entries
order_where entries (Some f) = []

-- the order of the first n of some parents; none where a chain never ends or a parent is none of the n fields
unfoldable pub order_of : List ℕ → ℕ → List Entry
order_of parents n = pick (inside parents n) (order_where (order (take n parents)) (endless (take n parents) n n)) []
