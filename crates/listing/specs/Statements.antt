-- What holds of the listing of every accepted header.
use Rattle.std.specs.Prelude.{ℕ, ◌-◌, ◌≤◌, ◌<◌, ◌≡◌, ◌⊎◌, List, [], ◌∷◌, length, get_or, drop}
use Rattle.wire.specs.Reading.{found}
use Rattle.chain_moves.specs.Moves.{moves}
use Rattle.header.specs.Header.{Header, Lists}
use Rattle.header.specs.Tables.{header_of, parents_of, Answered as HeaderAnswered}
use Rattle.header.specs.declared.HeaderTables.{HeaderTables}
use Rattle.header.specs.Answer.{HeaderAnswer}
use Rattle.listing.specs.Order.{Entry, holder, order}
use Rattle.listing.specs.Listed.{fields_in, times, numbers_below, children_in}
use Rattle.numbers.specs.Lists.{Each}
use Rattle.listing.specs.Lines.{shown_byte, listing}
use Rattle.listing.specs.Answers.{Answered}
use Rattle.listing.specs.Answer.{ListAnswer}
use Rattle.std.specs.Prelude.{Ok, Err}

-- each number below n is in a list exactly once, and no other number is
pub record OnceEach (n : ℕ) (l : List ℕ) : Type 0 where
  pub many : length l ≡ n
  pub below : (f : ℕ) → f < n → times f l ≡ 1
  pub others : (f : ℕ) → n ≤ f → times f l ≡ 0

-- Each field of an accepted header is listed exactly once, and nothing else is.
abbrev pub EachOnce : Type 0
EachOnce =
    (e : List ℕ) (h : Header) (p : ℕ) → header_of e ≡ found h p
    → OnceEach (length h.lists.fields) (fields_in (order (parents_of h.lists.fields)))

-- The level of a line is the number of moves from its field to the self-parented top.
abbrev pub LevelsAreMoves : Type 0
LevelsAreMoves =
    (e : List ℕ) (h : Header) (p : ℕ) → header_of e ≡ found h p
    → Each (λ x. x.level ≡ moves (parents_of h.lists.fields) (length h.lists.fields) x.field) (order (parents_of h.lists.fields))

-- what is left of a path, whose innermost field is in front, above a line of this level: its outermost fields, one for each level less deep
abbrev pub open_above : ℕ → List ℕ → List ℕ
open_above level path = drop (length path - level) path

-- Lines read from the first to the last, with the path to the line before: no line is more than one level deeper than the line before, and
-- its field hangs on the field of the nearest line above it that is one level less deep, or, at level 0, on `root`.
abbrev pub Nested : (ℕ → ℕ) → ℕ → List ℕ → List Entry → Type 0
Nested up root path [] = Unit {0}
Nested up root path (x ∷ rest) =
    (x.level ≤ length path) × (up x.field ≡ get_or (open_above x.level path) 0 root) × Nested up root (x.field ∷ open_above x.level path) rest

-- So the indentation shows what each field hangs on, whatever the parents are.
abbrev pub ParentsShown : Type 0
ParentsShown = (parents : List ℕ) → Nested (holder parents) (length parents) [] (order parents)

-- The fields that hang on the same field are listed in the order of their numbers, and so are the top-level fields, which hang on the
-- number of fields.
abbrev pub SiblingsRise : Type 0
SiblingsRise =
    (e : List ℕ) (h : Header) (p : ℕ) → header_of e ≡ found h p
    → (g : ℕ) → g ≤ length h.lists.fields
    → children_in (holder (parents_of h.lists.fields)) g (fields_in (order (parents_of h.lists.fields)))
    ≡ children_in (holder (parents_of h.lists.fields)) g (numbers_below (length h.lists.fields))

-- The listing has as many line ends as fields.
abbrev pub OneLineEach : Type 0
OneLineEach = (e : List ℕ) (h : Header) (p : ℕ) → header_of e ≡ found h p → times 10 (listing e h.lists) ≡ length h.lists.fields

-- Every other byte of it is at least 32 and not 127: no name ends a line, or hides one.
abbrev pub Printable : Type 0
Printable = (e : List ℕ) (l : Lists) → Each (λ b. (b ≡ 10) ⊎ ((32 ≤ b) × (b ≡ 127 → ⊥))) (listing e l)

-- Such a byte of a name or a type's name stands as it is, also one of 128 and above.
abbrev pub BytesKept : Type 0
BytesKept = (b : ℕ) → 32 ≤ b → (b ≡ 127 → ⊥) → shown_byte b ≡ b

-- The bytes of a listing tell the tree, whatever the names are: accepted headers with the same listing have the same parents.
abbrev pub ListingTells : Type 0
ListingTells =
    (e e' : List ℕ) (h h' : Header) (p p' : ℕ) → header_of e ≡ found h p → header_of e' ≡ found h' p'
    → listing e h.lists ≡ listing e' h'.lists → parents_of h.lists.fields ≡ parents_of h'.lists.fields

-- Beside any call of the header's reader for the same envelope e, with so many bytes lent here: where that accepts, the header is listed, or
-- refused 20 where the bytes are too few; a refusal is that call's, except 20, which is about other room in each of the two.
pub record BesideReader (e : List ℕ) (room : ℕ) (r : HeaderAnswer) (s : ListAnswer) : Type 0 where
  pub accepts : (t : HeaderTables) → r ≡ Ok t
      → (h : Header) × (p : ℕ) × (header_of e ≡ found h p)
      × (((length (listing e h.lists) ≤ room) × (s ≡ Ok (length (listing e h.lists))))
      ⊎ ((room < length (listing e h.lists)) × (s ≡ Err 20)))
  pub refuses : (k : ℕ) → r ≡ Err k → (k ≡ 20 → ⊥) → s ≡ Err k
  pub refused : (k : ℕ) → s ≡ Err k → (k ≡ 20 → ⊥) → r ≡ Err k

abbrev pub ListBesideReader : Type 0
ListBesideReader =
    (e f f' c c' a a' out out' : List ℕ) (r : HeaderAnswer) (s : ListAnswer)
    → HeaderAnswered (header_of e) f f' c c' a a' r → Answered e out out' s → BesideReader e (length out) r s
