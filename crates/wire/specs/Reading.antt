-- Document 01's rules of reading. A container is given as the bytes up to its end, so that places count from the envelope's first byte.
use Rattle.std.specs.Prelude.{ℕ, ◌+◌, List, [], Bool, true, false, length, ltb, leb, eqb}
use Rattle.numbers.specs.Choice.{pick}
use Rattle.numbers.specs.Numbers.{little}
use Rattle.wire.specs.declared.Fault.{Fault}
use Rattle.wire.specs.declared.Kind.{Kind}
use Rattle.wire.specs.declared.Kind.TheVariants.{Number}

infixl 20 ◌>>=◌
infixl 20 ◌>>◌
-- a value with the place after it, or a refusal
pub data Step (A : Type 0) : Type 0 where
  found : A → ℕ → Step A
  refused : Fault → Step A

-- a rule reads in a container, at a place
abbrev pub Rule : Type 0 → Type 0
Rule A = List ℕ → ℕ → Step A

abbrev pub fault : ℕ → Kind → ℕ → Fault
fault n k at = record { number = n; place = at; kind = k; list = 0; item = 0 }

-- a fault inside item i of the list at head, unless a list further in has it already
unfoldable pub in_item : ℕ → ℕ → Fault → Fault
in_item head i f =
    pick (eqb f.list 0)
    (record { number = f.number; place = f.place; kind = f.kind; list = head; item = i })
    f

-- sequence

abbrev pub after : {A B : Type 0} → (A → Rule B) → List ℕ → Step A → Step B
after k s (found a at) = k a s at
after k s (refused f) = refused f

abbrev pub ◌>>=◌ : {A B : Type 0} → Rule A → (A → Rule B) → Rule B
◌>>=◌ r k s at = after k s (r s at)

abbrev pub ◌>>◌ : {A B : Type 0} → Rule A → Rule B → Rule B
◌>>◌ r k = r >>= (λ _. k)

abbrev pub give : {A : Type 0} → A → Rule A
give a s at = found a at

-- the place where a rule stands
abbrev pub here : Rule ℕ
here s at = found at at

-- a step with its value changed
abbrev pub mapped : {A B : Type 0} → (A → B) → Step A → Step B
mapped f (found a p) = found (f a) p
mapped f (refused g) = refused g

abbrev pub accepted : {A : Type 0} → Step A → Bool
accepted (found a p) = true
accepted (refused f) = false

-- how many rows a step found
abbrev pub counted : {A : Type 0} → Step (List A) → Step ℕ
counted (found rows p) = found (length rows) p
counted (refused f) = refused f

-- the rows that a step found
abbrev pub rows_of : {A : Type 0} → Step (List A) → List A
rows_of (found rows p) = rows
rows_of (refused f) = []

-- numbers

-- a verdict on a number: 0, or the number of the first test that fails
abbrev pub unless : Bool → ℕ → ℕ → ℕ
unless good n rest = pick good rest n

-- a number of k bytes
unfoldable pub number : ℕ → Rule ℕ
number k s at = pick (leb (at + k) (length s)) (found (little k s at) (at + k)) (refused (fault 7 Number at))

-- a verdict on a number that was read at a place
unfoldable pub judged : (ℕ → ℕ) → ℕ → Step ℕ → Step ℕ
judged verdict at (found v p) = pick (eqb (verdict v) 0) (found v p) (refused (fault (verdict v) Number at))
judged verdict at (refused f) = refused f

-- a number of k bytes, and a verdict on it as soon as it is read whole
abbrev pub tested : ℕ → (ℕ → ℕ) → Rule ℕ
tested k verdict s at = judged verdict at (number k s at)

-- a verdict on a field's or a column's number: below its count
abbrev pub below : ℕ → ℕ → ℕ
below limit n = unless (ltb n limit) 14 0

-- a verdict on a role or on flags: none above the greatest that is listed
abbrev pub listed : ℕ → ℕ → ℕ
listed most n = unless (leb n most) 12 0
