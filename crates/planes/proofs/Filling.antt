-- A loop that writes a list over the front of lent elements, one store a turn: after i turns they are `filling l d i`.
--     fill_step     a store of l's element at i
--     fill_read     the element at i is still the old one
--     fill_length   the length is the old one
--     fill_done     after all turns it is `over l d`
-- Assumes nothing.
use mathlib.Core.Path.{◌≡◌, refl, ap, ◌∙◌}
use mathlib.Core.List.{List, [], ◌∷◌, ◌++◌, map}
use Prim.Native.Nat.{ℕ, zero, suc, ◌+◌, ◌<◌, ◌≤◌}
use native.Mathlib.Nat.{not-suc-le-zero, le_of_suc-le-suc}
use native.Mathlib.Numerals.{add-one}
use lib.ListN.{length, set, take, drop, get_or, length-set}
use lib.Seq.{take-length}
use Rattle.numbers.specs.Rows.{over}

abbrev pub filling : List ℕ → List ℕ → ℕ → List ℕ
filling l d i = take i l ++ drop i d

store : (l d : List ℕ) (i : ℕ) → i < length l → i < length d → set (filling l d i) i (get_or l i 0) ≡ filling l d (suc i)
store [] d i p q = absurd (not-suc-le-zero p)
store (x ∷ l) [] i p q = absurd (not-suc-le-zero q)
store (x ∷ l) (y ∷ d) zero p q = refl
store (x ∷ l) (y ∷ d) (suc i) p q = ap (λ (t : List ℕ). x ∷ t) (store l d i (le_of_suc-le-suc p) (le_of_suc-le-suc q))

pub fill_step : (l d : List ℕ) (i v : ℕ) → i < length l → i < length d → v ≡ get_or l i 0 → set (filling l d i) i v ≡ filling l d (i + 1)
fill_step l d i v p q e = rw (e, add-one) (store l d i p q)

pub fill_read : (l d : List ℕ) (i : ℕ) → i ≤ length l → get_or (filling l d i) i 0 ≡ get_or d i 0
fill_read l d zero p = refl
fill_read [] d (suc i) p = absurd (not-suc-le-zero p)
fill_read (x ∷ l) [] (suc i) p = rest l i
  where
    rest : (l : List ℕ) (i : ℕ) → get_or (take i l ++ []) i 0 ≡ 0
    rest l zero = refl
    rest [] (suc i) = refl
    rest (x ∷ l) (suc i) = rest l i
fill_read (x ∷ l) (y ∷ d) (suc i) p = fill_read l d i (le_of_suc-le-suc p)

pub fill_length : (l d : List ℕ) (i : ℕ) → i ≤ length l → i ≤ length d → length (filling l d i) ≡ length d
fill_length l d zero p q = refl
fill_length [] d (suc i) p q = absurd (not-suc-le-zero p)
fill_length (x ∷ l) [] (suc i) p q = absurd (not-suc-le-zero q)
fill_length (x ∷ l) (y ∷ d) (suc i) p q = ap suc (fill_length l d i (le_of_suc-le-suc p) (le_of_suc-le-suc q))

pub fill_done : (l d : List ℕ) (i : ℕ) → i ≡ length l → filling l d i ≡ over l d
fill_done l d i e = ap (filling l d) e ∙ ap (λ (t : List ℕ). t ++ drop (length l) d) (take-length l)

-- such a loop's invariant, and its turn

abbrev pub Filled : List ℕ → List ℕ → ℕ → List ℕ → Type 0
Filled l d i out = (out ≡ filling l d i) × (length out ≡ length d)

pub fill_turn : (l d out : List ℕ) (i v : ℕ) → Filled l d i out → i < length l → i < length d → v ≡ get_or l i 0 → Filled l d (i + 1) (set out i v)
fill_turn l d out i v f p q e =
    (ap (λ (o : List ℕ). set o i v) f.0 ∙ fill_step l d i v p q e, length-set out i v ∙ f.1)

-- what stands at a place of a mapped list
pub get_or_mapped : (f : ℕ → ℕ) (l : List ℕ) (i : ℕ) → i < length l → get_or (map f l) i 0 ≡ f (get_or l i 0)
get_or_mapped f [] i h = absurd (not-suc-le-zero h)
get_or_mapped f (x ∷ l) zero h = refl
get_or_mapped f (x ∷ l) (suc i) h = get_or_mapped f l i (le_of_suc-le-suc h)
