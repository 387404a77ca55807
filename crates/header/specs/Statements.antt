-- Parent chains and dark marks without a bound on the moves: what the tests of the contract, which count moves, amount to. The place
-- that a chain's refusal names. What an answer says is all that it says.
use Rattle.std.specs.Prelude.{ℕ, ◌+◌, ◌-◌, ◌<◌, List, Bool, true, ◌↔◌, ◌≡◌, length, get_or, take}
use Rattle.wire.specs.Reading.{found, refused}
use Rattle.frames.specs.Frames.{record_of}
use Rattle.envelope.specs.Envelope.{envelope}
use Rattle.records.specs.Records.{field}
use Rattle.rows.specs.declared.FieldRow.{FieldRow}
use Rattle.header.specs.Header.{Header, field_list, payload}
use Rattle.parents.specs.Parents.{Reaches}
use Rattle.parents.specs.Dark.{dark, UnknownBelow}
use Rattle.header.specs.Tables.{header_of, parents_of, record_at, chain_fault, outcome_of, texts_of}
use Rattle.header.specs.Answer.{HeaderAnswer}

-- of n fields, f is the lowest whose chain reaches no self-parented field
pub record Lowest (parents : List ℕ) (n f : ℕ) : Type 0 where
  pub one : f < n
  pub never : Reaches parents f → ⊥
  pub below : (g : ℕ) → g < f → Reaches parents g

-- a header whose payload is read is accepted exactly when the chain from every field reaches a self-parented one
abbrev pub ChainsAsDefined : Type 0
ChainsAsDefined =
    (e : List ℕ) (h : Header) (p : ℕ) → envelope 1 payload e ≡ found h p
    → (header_of e ≡ found h p) ↔ ((f : ℕ) → f < length h.lists.fields → Reaches (parents_of h.lists.fields) f)

-- and it is refused by 15, at the record of field f, exactly when f is the lowest field whose chain never does
abbrev pub EndlessAsDefined : Type 0
EndlessAsDefined =
    (e : List ℕ) (h : Header) (p : ℕ) → envelope 1 payload e ≡ found h p
    → (f : ℕ) → (header_of e ≡ refused (chain_fault (take (length e - 4) e) h.lists.fields_at f)) ↔ Lowest (parents_of h.lists.fields) (length h.lists.fields) f

-- a field of an accepted header is dark exactly when a column of unknown type hangs on it or on a field below it
abbrev pub DarkAsDefined : Type 0
DarkAsDefined =
    (e : List ℕ) (h : Header) (p : ℕ) → header_of e ≡ found h p
    → (f : ℕ) → (dark (parents_of h.lists.fields) h.lists.columns f ≡ true) ↔ UnknownBelow (parents_of h.lists.fields) h.lists.columns f

-- in a list of fields that is found, the record of field k is read at its place, and the next one stands after it
abbrev pub RecordPlaces : Type 0
RecordPlaces =
    (strict : Bool) (s : List ℕ) (at : ℕ) (rows : List FieldRow) (p : ℕ) → field_list strict s at ≡ found rows p
    → (k : ℕ) (other : FieldRow) → k < length rows → record_of strict (field (length rows)) s (record_at s (at + 8) k) ≡ found (get_or rows k other) (record_at s (at + 8) (k + 1))

-- two answers with the same outcome and the same texts are one
abbrev pub HeaderAnswerTells : Type 0
HeaderAnswerTells = (r r' : HeaderAnswer) → outcome_of r ≡ outcome_of r' → texts_of r ≡ texts_of r' → r ≡ r'
