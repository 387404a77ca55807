-- What is said of the fields that are listed.
use Rattle.std.specs.Prelude.{ℕ, ◌+◌, List, [], ◌∷◌, ◌++◌, map, eqb}
use Rattle.numbers.specs.Choice.{pick}
use Rattle.listing.specs.Order.{Entry, joined}

-- the fields of some entries
abbrev pub fields_in : List Entry → List ℕ
fields_in = map (λ x. x.field)

-- how often a number is in a list
unfoldable pub times : ℕ → List ℕ → ℕ
times f [] = 0
times f (x ∷ rest) = pick (eqb x f) 1 0 + times f rest

-- the numbers below n, rising
abbrev pub numbers_below : ℕ → List ℕ
numbers_below n = joined (λ k. k ∷ []) n

-- of some fields those that hang on g, in the order in which they stand
unfoldable pub children_in : (ℕ → ℕ) → ℕ → List ℕ → List ℕ
children_in up g [] = []
children_in up g (x ∷ rest) = pick (eqb (up x) g) (x ∷ []) [] ++ children_in up g rest
