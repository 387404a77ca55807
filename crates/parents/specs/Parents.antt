-- Parent chains.
use Rattle.std.specs.Prelude.{ℕ, zero, suc, ◌<◌, List, Bool, true, ◌≡◌, length, get_or, take, eqb, leb, ltb, Option, Some, None}
use Rattle.numbers.specs.Choice.{pick, both}
use Rattle.rows.specs.Words.{most_fields}
use Rattle.rows.specs.declared.FieldNumber.{FieldNumber}

-- every field below n has its parent below n
abbrev pub Inside : List ℕ → ℕ → Type 0
Inside parents n = (f : ℕ) → f < n → get_or parents f 0 < n

-- the same as a test, up to field k
unfoldable pub inside_up_to : List ℕ → ℕ → ℕ → Bool
inside_up_to parents n zero = true
inside_up_to parents n (suc k) = both (inside_up_to parents n k) (ltb (get_or parents k 0) n)

-- there are at most as many fields as a header may have, at most as many as parents, and each has its parent among them
unfoldable pub inside : List ℕ → ℕ → Bool
inside parents n = both (leb n most_fields) (both (leb n (length parents)) (inside_up_to parents n n))

-- the field reached from f by k moves from a field to its parent
unfoldable pub ancestor : List ℕ → ℕ → ℕ → ℕ
ancestor parents zero f = f
ancestor parents (suc k) f = ancestor parents k (get_or parents f 0)

-- within k moves up from f stands a field that passes the test
unfoldable pub meets : (ℕ → Bool) → List ℕ → ℕ → ℕ → Bool
meets test parents zero f = test f
meets test parents (suc k) f = pick (test f) true (meets test parents k (get_or parents f 0))

-- the field names itself as its parent
abbrev pub top_level : List ℕ → ℕ → Bool
top_level parents f = eqb (get_or parents f 0) f

-- the chain from f reaches a self-parented field
abbrev pub Reaches : List ℕ → ℕ → Type 0
Reaches parents f = (k : ℕ) × (top_level parents (ancestor parents k f) ≡ true)

-- the same within k moves; as many moves as there are fields are enough
abbrev pub reaches : List ℕ → ℕ → ℕ → Bool
reaches parents k f = meets (top_level parents) parents k f

-- every field below n reaches a self-parented one
unfoldable pub all_reach : List ℕ → ℕ → Bool
all_reach parents zero = true
all_reach parents (suc n) = both (all_reach parents n) (reaches parents (length parents) n)

-- the chain from f never ends
abbrev pub endless_at : ℕ → Option FieldNumber
endless_at f = Some (record { 0 = f })

abbrev pub or_else : Option FieldNumber → Option FieldNumber → Option FieldNumber
or_else None c = c
or_else (Some f) c = Some f

-- of the fields below k, the lowest whose chain does not end within n moves
unfoldable pub endless : List ℕ → ℕ → ℕ → Option FieldNumber
endless parents n zero = None
endless parents n (suc k) = or_else (endless parents n k) (pick (reaches parents n k) None (endless_at k))

-- the answer on the first n of some parents; where one is none of the n fields, no chain is followed
unfoldable pub chains_of : List ℕ → ℕ → Option FieldNumber
chains_of parents n = pick (inside parents n) (endless (take n parents) n n) None

-- f is g or an ancestor of g
abbrev pub Above : List ℕ → ℕ → ℕ → Type 0
Above parents f g = (k : ℕ) × (ancestor parents k g ≡ f)

-- the same within k moves
abbrev pub is_above : List ℕ → ℕ → ℕ → ℕ → Bool
is_above parents k f g = meets (eqb f) parents k g
