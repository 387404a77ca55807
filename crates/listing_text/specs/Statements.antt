-- The listing of an accepted header is text, whatever the alphabets of its names.
use Rattle.std.specs.Prelude.{ℕ, ◌+◌, ◌≤◌, ◌≡◌, true, List, map, length, take, drop}
use Rattle.numbers.specs.Lists.{Each}
use Rattle.numbers.specs.Rows.{flat}
use Rattle.utf8.specs.WellFormed.{well_formed}
use Rattle.utf8.specs.Scalars.{encoded, Text}
use Rattle.rows.specs.declared.Text.{Text as TextRow}
use Rattle.wire.specs.Reading.{found}
use Rattle.header.specs.Header.{Header}
use Rattle.header.specs.Tables.{header_of}
use Rattle.listing.specs.Lines.{shown_byte, shown, characters, listing}
use Rattle.listing.specs.Answers.{Answered}
use Rattle.std.specs.Prelude.{Ok}

-- a string lies in an envelope, and its characters are the bytes that stand there
pub record Whole (e : List ℕ) (t : TextRow) : Type 0 where
  pub inside : t.place + t.len ≤ length e
  pub bytes : characters e t ≡ take t.len (drop t.place e)

-- The name and the type name of each field of an accepted header are listed whole.
abbrev pub NamesWhole : Type 0
NamesWhole =
    (e : List ℕ) (h : Header) (p : ℕ) → header_of e ≡ found h p
    → Each (λ r. Whole e r.texts.name × Whole e r.texts.type_name) h.lists.fields

-- Bytes are shown character by character: a character below 32 and character 127 print as a question mark, and any other one stands whole,
-- however many bytes encode it.
abbrev pub ShownByCharacter : Type 0
ShownByCharacter = (cs : List ℕ) → shown (flat encoded cs) ≡ flat encoded (map shown_byte cs)

-- So a listing is the encodings of Unicode scalar values, one after the other.
abbrev pub ListingIsText : Type 0
ListingIsText = (e : List ℕ) (h : Header) (p : ℕ) → header_of e ≡ found h p → Text (listing e h.lists)

-- The same by the test that strings of envelopes pass.
abbrev pub ListingWellFormed : Type 0
ListingWellFormed = (e : List ℕ) (h : Header) (p : ℕ) → header_of e ≡ found h p → well_formed (listing e h.lists) ≡ true

-- The same of calls: the bytes that a call has written are text.
abbrev pub WrittenIsText : Type 0
WrittenIsText = (e out out' : List ℕ) (n : ℕ) → Answered e out out' (Ok n) → Text (take n out')
