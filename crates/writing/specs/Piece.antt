-- Document 02's rules of writing (request L1). A writer's rule says of each part of an envelope what its bytes are, and what is refused where.
use Rattle.std.specs.Prelude.{ℕ, zero, suc, ◌+◌, ◌^◌, List, [], ◌∷◌, ◌++◌, Bool, true, length, ltb, leb}
use Rattle.numbers.specs.Choice.{both}
use Rattle.wire.specs.Reading.{unless}
use Rattle.utf8.specs.WellFormed.{well_formed}
use Rattle.envelope.specs.Envelope.{ceiling}
use Rattle.rows.specs.declared.Text.{Text}
use Rattle.tree.specs.Bytes.{spelled}
use Rattle.tree.specs.Shape.{record_bytes, list_bytes, string_shape, chars}
use Rattle.tree.specs.EnvelopeTree.{sealed}

infixr 30 ◌&◌
-- a place of an envelope where a number, a string or a count is to stand
pub record Place : Type 0 where
  -- it is not too wide for its place; of a string: it lies in the lent strings
  pub fits : Bool
  -- the number of its refusal, 0 where there is none
  pub number : ℕ

-- what does not fit is refused by a number of its own, before any verdict on it
abbrev pub placed : Bool → ℕ → ℕ → Place
placed fits outside verdict = record { fits = fits; number = unless fits outside verdict }

-- a part of an envelope that is to be written
pub record Piece : Type 0 where
  -- its bytes as they would stand
  pub bytes : List ℕ
  -- how many they would be, by the lengths of strings as given
  pub long : ℕ
  -- every number fits its place, and every string lies in the lent strings
  pub fits : Bool
  -- the number of its first refusal, 0 where there is none
  pub number : ℕ
  -- what is to stand in it, front to back
  pub places : List Place

-- the first of two refusals
abbrev pub first : ℕ → ℕ → ℕ
first zero m = m
first (suc n) m = suc n

-- the first refusal of places, front to back
abbrev pub first_of : List Place → ℕ
first_of [] = 0
first_of (p ∷ ps) = first p.number (first_of ps)

-- one place: its bytes, how many they would be, and what is refused there
abbrev pub alone : List ℕ → ℕ → Place → Piece
alone bytes long p = record { bytes = bytes; long = long; fits = p.fits; number = p.number; places = p ∷ [] }

-- a number in k bytes, where its place has so many bits, with a verdict on it
abbrev pub put : ℕ → ℕ → (ℕ → ℕ) → ℕ → Piece
put k bits verdict n = alone (spelled k n) k (placed (ltb n (2 ^ bits)) 25 (verdict n))

-- the string lies in the lent strings
abbrev pub lies : List ℕ → Text → Bool
lies strings t = leb (t.place + t.len) (length strings)

-- a string of the lent strings: its length, then its characters (a length too wide for its place comes to an envelope above the ceiling)
unfoldable pub text : List ℕ → Text → Piece
text strings t = alone (string_shape.render (chars strings t)) (4 + t.len) (placed (lies strings t) 7 (unless (well_formed (chars strings t)) 9 0))

abbrev pub nothing : Piece
nothing = record { bytes = []; long = 0; fits = true; number = 0; places = [] }

-- one after the other
abbrev pub ◌&◌ : Piece → Piece → Piece
◌&◌ x y =
    record {
      bytes = x.bytes ++ y.bytes;
      long = x.long + y.long;
      fits = both x.fits y.fits;
      number = first x.number y.number;
      places = x.places ++ y.places;
    }

abbrev pub in_order : List Piece → Piece
in_order [] = nothing
in_order (x ∷ xs) = x & in_order xs

-- a test before all that a piece refuses: where it fails there are no bytes for what is to be written
abbrev pub tested_first : Bool → ℕ → Piece → Piece
tested_first good n x =
    record { bytes = x.bytes; long = x.long; fits = both good x.fits; number = unless good n x.number; places = x.places }

-- a refusal after all others
abbrev pub tested_last : Piece → ℕ → Piece
tested_last x n = record { bytes = x.bytes; long = x.long; fits = x.fits; number = first x.number n; places = x.places }

-- a record frame around a piece
abbrev pub record_piece : Piece → Piece
record_piece x = record { bytes = record_bytes x.bytes; long = 4 + x.long; fits = x.fits; number = x.number; places = x.places }

-- items, where the piece of an item may hang on the items before it
unfoldable pub pieces : {A : Type 0} → (List A → A → Piece) → List A → List A → Piece
pieces f done [] = nothing
pieces f done (a ∷ rest) = f done a & pieces f (done ++ (a ∷ [])) rest

-- a list frame around items, with a verdict on their count
abbrev pub list_piece : {A : Type 0} → (ℕ → ℕ) → (List A → A → Piece) → List A → Piece
list_piece verdict f rows =
    let inside = pieces f [] rows in
    record {
      bytes = list_bytes (length rows) inside.bytes;
      long = 8 + inside.long;
      fits = inside.fits;
      number = first (verdict (length rows)) inside.number;
      places = placed true 0 (verdict (length rows)) ∷ inside.places;
    }

-- an envelope around a payload, with its version and minimum in front and its checksum behind: first of all, at most 1,048,576 bytes
abbrev pub enveloped : ℕ → ℕ → Piece → Piece
enveloped version minimum x =
    record {
      bytes = sealed (spelled 2 version ++ (spelled 2 minimum ++ x.bytes));
      long = 8 + x.long;
      fits = x.fits;
      number = unless (leb (8 + x.long) ceiling) 1 x.number;
      places = x.places;
    }
