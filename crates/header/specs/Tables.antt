-- What a header's reader answers, and what its lent tables then hold.
use Rattle.std.specs.Prelude.{ℕ, zero, suc, ◌+◌, ◌-◌, ◌/◌, List, [], ◌∷◌, map, Bool, length, take, leb, ◌≡◌}
use Rattle.numbers.specs.Choice.{pick, both}
use Rattle.numbers.specs.Numbers.{little_in}
use Rattle.wire.specs.declared.Fault.{Fault}
use Rattle.wire.specs.Reading.{Step, found, refused}
use Rattle.envelope.specs.Envelope.{envelope}
use Rattle.outcome.specs.Outcome.{Outcome, accepted_with, refused_in}
use Rattle.records.specs.declared.HeaderTexts.{HeaderTexts}
use Rattle.numbers.specs.Rows.{flat, flat_by, over}
use Rattle.wire.specs.declared.Kind.TheVariants.{Chain}
use Rattle.rows.specs.Words.{bit, field_width, column_width, alias_width, field_words, column_words, alias_words}
use Rattle.header.specs.Header.{Lists, Header, payload}
use Rattle.header.specs.declared.HeaderTables.{HeaderTables}
use Rattle.parents.specs.Parents.{all_reach, endless}
use Rattle.std.specs.Prelude.{Option, Some, None}
use Rattle.rows.specs.declared.FieldNumber.{FieldNumber}
use Rattle.parents.specs.Dark.{dark}
use Rattle.rows.specs.declared.FieldRow.{FieldRow}
use Rattle.header.specs.Answer.{HeaderAnswer}
use Rattle.std.specs.Prelude.{Ok, Err}

abbrev pub parents_of : List FieldRow → List ℕ
parents_of = map (λ (r : FieldRow). r.head.parent.0)

-- the place of record k of those that stand one after the other from a place on: the next one starts where the size says
unfoldable pub record_at : List ℕ → ℕ → ℕ → ℕ
record_at s at zero = at
record_at s at (suc k) = record_at s (at + little_in 4 s at) k

-- what is refused where the chain from field f of the list at a place never ends: the field's record
abbrev pub chain_fault : List ℕ → ℕ → ℕ → Fault
chain_fault s list f = record { number = 15; place = record_at s (list + 8) f; kind = Chain; list = list; item = f }

-- the field that an answer on chains names, 0 where it names none
abbrev pub lowest_in : Option FieldNumber → ℕ
lowest_in None = 0
lowest_in (Some f) = f.0

-- the refusal of the lowest field whose chain never ends
abbrev pub endless_fault : List ℕ → Lists → Fault
endless_fault s l = chain_fault s l.fields_at (lowest_in (endless (parents_of l.fields) (length l.fields) (length l.fields)))

-- after a payload that was read in these bytes: every parent chain ends
unfoldable pub chained : List ℕ → Step Header → Step Header
chained s (found h p) =
    pick (all_reach (parents_of h.lists.fields) (length h.lists.fields)) (found h p) (refused (endless_fault s h.lists))
chained s (refused f) = refused f

-- the header that an envelope is, or its refusal; room is not asked for here
unfoldable pub header_of : List ℕ → Step Header
header_of e = chained (take (length e - 4) e) (envelope 1 payload e)

-- the words of each table

abbrev pub field_table : Lists → List ℕ
field_table l = flat_by (λ i. field_words (bit (dark (parents_of l.fields) l.columns i))) 0 l.fields

abbrev pub column_table : Lists → List ℕ
column_table l = flat column_words l.columns

abbrev pub alias_table : Lists → List ℕ
alias_table l = flat alias_words l.aliases

-- tables of f, c and a words have room for so many rows
abbrev pub fitting : ℕ → ℕ → ℕ → ℕ → ℕ → ℕ → Bool
fitting f c a fields columns aliases = both (leb fields (f / field_width)) (both (leb columns (c / column_width)) (leb aliases (a / alias_width)))

abbrev pub room_for : ℕ → ℕ → ℕ → Lists → Bool
room_for f c a l = fitting f c a (length l.fields) (length l.columns) (length l.aliases)

-- what an accepted header reads besides its rows
abbrev pub tables_of : Header → HeaderTables
tables_of h = record { texts = h.texts; fields = length h.lists.fields; columns = length h.lists.columns; aliases = length h.lists.aliases }

-- the whole answer, for tables of f, c and a words
unfoldable pub answer : ℕ → ℕ → ℕ → Step Header → HeaderAnswer
answer f c a (found h p) = pick (room_for f c a h.lists) (Ok (tables_of h)) (Err 20)
answer f c a (refused g) = Err g.number

-- a lent table after the call: the words in front where the header is accepted, else as it was
unfoldable pub written : (Lists → List ℕ) → ℕ → ℕ → ℕ → List ℕ → Step Header → List ℕ
written words f c a old (found h p) = pick (room_for f c a h.lists) (over (words h.lists) old) old
written words f c a old (refused g) = old

-- the answer in document 01's terms

abbrev pub outcome_of : HeaderAnswer → Outcome
outcome_of (Ok t) = accepted_with (t.fields ∷ t.columns ∷ t.aliases ∷ [])
outcome_of (Err n) = refused_in 1 n 3

abbrev pub no_texts : HeaderTexts
no_texts = record { name = record { place = 0; len = 0 }; description = record { place = 0; len = 0 } }

-- where name and description stand
abbrev pub texts_of : HeaderAnswer → HeaderTexts
texts_of (Ok t) = t.texts
texts_of (Err n) = no_texts

-- the outcome that is due, for tables of f, c and a words, and where name and description then stand

abbrev pub reported : ℕ → ℕ → ℕ → Step Header → Outcome
reported f c a x = outcome_of (answer f c a x)

abbrev pub reported_texts : ℕ → ℕ → ℕ → Step Header → HeaderTexts
reported_texts f c a x = texts_of (answer f c a x)

-- all that a call leaves, for a header and three lent tables
pub record Answered (x : Step Header) (f₀ f c₀ c a₀ a : List ℕ) (r : HeaderAnswer) : Type 0 where
  pub answers : r ≡ answer (length f₀) (length c₀) (length a₀) x
  pub reports : outcome_of r ≡ reported (length f₀) (length c₀) (length a₀) x
  pub reports_texts : texts_of r ≡ reported_texts (length f₀) (length c₀) (length a₀) x
  pub fields_are : f ≡ written field_table (length f₀) (length c₀) (length a₀) f₀ x
  pub columns_are : c ≡ written column_table (length f₀) (length c₀) (length a₀) c₀ x
  pub aliases_are : a ≡ written alias_table (length f₀) (length c₀) (length a₀) a₀ x
