-- The strings of a field's row, as they were read: each lies in the envelope whole, and is text.
use Prim.Native.Nat.{ℕ, zero, suc, ◌+◌, ◌≤◌}
use mathlib.Core.Path.{◌≡◌, refl, sym, ap, subst, ◌∙◌}
use mathlib.Core.Bool.{Bool, true}
use mathlib.Core.List.{List, [], ◌∷◌}
use native.Mathlib.Omega.{arith}
use borrow.Author.Tests.{leb-true}
use lib.Dec.{leb}
use lib.ListN.{length, take, drop, get_or, length-drop, take-append-drop}
use lib.Seq.{take-append-le, drop-append-le}
use Rattle.numbers.specs.Lists.{Each}
use Rattle.numbers.specs.Numbers.{little}
use Rattle.numbers.proofs.Lists.{each_weaken}
use Rattle.numbers.proofs.Parts.{cut_length}
use Rattle.utf8.specs.WellFormed.{goes_on, well_formed}
use Rattle.utf8.specs.Scalars.{Text}
use Rattle.utf8.proofs.Exactly.{well_formed_exactly}
use Rattle.rows.specs.Words.{most_fields, field_of}
use Rattle.rows.specs.declared.Text.{Text as TextRow}
use Rattle.rows.specs.declared.FieldTexts.{FieldTexts}
use Rattle.rows.specs.declared.FieldRow.{FieldRow}
use Rattle.wire.specs.Reading.{found, ◌>>=◌, give}
use Rattle.wire.proofs.Laws.{pick_found, bound}
use Rattle.text.specs.Strings.{string_of, string}
use Rattle.reader.proofs.TextLaws.{text_inside}
use Rattle.frames.specs.Frames.{record_of, at_most}
use Rattle.frames.proofs.Loops.{list_each, record_found}
use Rattle.records.specs.Records.{field_head, field_texts, field}
use Rattle.header.specs.Header.{Header, field_list}
use Rattle.header.specs.Tables.{header_of}
use Rattle.header.proofs.HeaderLaws.{header_read}
use Rattle.listing.specs.Lines.{characters, row_in}
use Rattle.listing_text.specs.Statements.{Whole, NamesWhole}

-- a string that was read: its bytes lie in a container, and passed the test
pub record Read (s : List ℕ) (t : TextRow) : Type 0 where
  pub inside : t.place + t.len ≤ length s
  pub good : well_formed (take t.len (drop t.place s)) ≡ true

string_read : (s : List ℕ) (at : ℕ) {t : TextRow} {p : ℕ} → string s at ≡ found t p → Read s t
unfolding string_of
string_read s at {t} {p} e =
    let size = little 4 s at in
    let (_, e₁) = pick_found (leb (at + 4) (length s)) _ _ t p e in
    let (room, e₂) = pick_found (leb (at + 4 + size) (length s)) _ _ t p e₁ in
    let (good, e₃) = pick_found (well_formed (take size (drop (at + 4) s))) _ _ t p e₂ in
    let same : ◌≡◌ {A = TextRow} (record { place = at + 4; len = size }) t = cc in
    subst (Read s) same (record { inside = leb-true (at + 4 + size) (length s) room; good = good })

-- a container is the front of what is around it
read_cut : (stop : ℕ) (s : List ℕ) {t : TextRow} → Read (take stop s) t → Read s t
read_cut stop s {t} r =
    let c = take stop s in
    let l = cut_length stop s in
    let i = r.inside in
    let same : take t.len (drop t.place s) ≡ take t.len (drop t.place c)
    = ap (λ (x : List ℕ). take t.len (drop t.place x)) (sym (take-append-drop stop s))
    ∙ ap (take t.len) (drop-append-le t.place c (drop stop s) (omega arith))
    ∙ take-append-le t.len (drop t.place c) (drop stop s) (omega (arith, length-drop t.place c)) in
    record { inside = omega arith; good = rw same r.good }

-- the two strings of a row that stand in its line

pub record Named (s : List ℕ) (t : FieldTexts) : Type 0 where
  pub name : Read s t.name
  pub type_name : Read s t.type_name

named_cut : (stop : ℕ) (s : List ℕ) (t : FieldTexts) → Named (take stop s) t → Named s t
named_cut stop s t r = record { name = read_cut stop s r.name; type_name = read_cut stop s r.type_name }

texts_named : (s : List ℕ) (at : ℕ) {t : FieldTexts} {p : ℕ} → field_texts s at ≡ found t p → Named s t
unfolding field_texts
texts_named s at {t} {p} =
    bound Good string (λ a. string >>= (λ b. string >>= (λ c. string >>= (λ d. give (row a b c d))))) s at (λ a q₁ name.
    bound Good string (λ b. string >>= (λ c. string >>= (λ d. give (row a b c d)))) s q₁ (λ b q₂ type.
    bound Good string (λ c. string >>= (λ d. give (row a b c d))) s q₂ (λ c q₃ _.
    bound Good string (λ d. give (row a b c d)) s q₃ (λ d q₄ _ g.
    let same : row a b c d ≡ t = cc in
    rw (← same) (record { name = string_read s at name; type_name = string_read s q₁ type })))))
  where
    Good : FieldTexts → ℕ → Type 0
    Good t _ = Named s t

    row : TextRow → TextRow → TextRow → TextRow → FieldTexts
    row a b c d = record { name = a; type_name = b; type_alias = c; description = d }

field_named : (n : ℕ) (s : List ℕ) (at : ℕ) {r : FieldRow} {p : ℕ} → field n s at ≡ found r p → Named s r.texts
unfolding field
field_named n s at {r} {p} =
    bound (λ r _. Named s r.texts) (field_head n) (λ h. field_texts >>= (λ t. give (record { head = h; texts = t }))) s at (λ h q _.
    bound (λ r _. Named s r.texts) field_texts (λ t. give (record { head = h; texts = t })) s q (λ t q₂ e g.
    let same : ◌≡◌ {A = FieldRow} (record { head = h; texts = t }) r = cc in
    rw (← same) (texts_named s q e)))

-- of every row

list_named : (strict : Bool) (s : List ℕ) (at : ℕ) {rows : List FieldRow} {p : ℕ} → field_list strict s at ≡ found rows p → Each (λ r. Named s r.texts) rows
list_named strict s at =
    list_each (λ _ (r : FieldRow). Named s r.texts) strict (at_most most_fields) (λ n _. record_of strict (field n)) s at
    (λ n _ stop from x p. record_found (λ (r : FieldRow). Named s r.texts) strict (field n) (take stop s) from (λ inner start q e.
    named_cut stop s x.texts (named_cut inner (take stop s) x.texts (field_named n (take inner (take stop s)) start e))))

fields_named : (e : List ℕ) {h : Header} {p : ℕ} → header_of e ≡ found h p → Each (λ r. Named e r.texts) h.lists.fields
fields_named e {h} w =
    let r = header_read e w in
    each_weaken (λ x. named_cut r.stop e x.texts) h.lists.fields (list_named r.versions.strict (take r.stop e) h.lists.fields_at r.parts.fields_are)

-- a string that was read is listed whole, and is text

read_whole : (e : List ℕ) (t : TextRow) → Read e t → Whole e t
read_whole e t r = record { inside = r.inside; bytes = text_inside e t.place t.len r.inside }

pub read_text : (e : List ℕ) (t : TextRow) → Read e t → Text (characters e t)
read_text e t r = rw (read_whole e t r).bytes ((well_formed_exactly.encodes (take t.len (drop t.place e))).0 r.good)

pub names_whole : NamesWhole
names_whole e h p w =
    each_weaken (λ r n. (read_whole e r.texts.name n.name, read_whole e r.texts.type_name n.type_name)) h.lists.fields (fields_named e w)

-- the row of any number: where a header has no such row, its strings have no bytes

no_string : (e : List ℕ) → Read e (record { place = 0; len = 0 })
unfolding well_formed goes_on
no_string e = record { inside = omega arith; good = refl }

or_named : (e : List ℕ) (rs : List FieldRow) (other : FieldRow) → Each (λ r. Named e r.texts) rs → Named e other.texts → (k : ℕ) → Named e (get_or rs k other).texts
or_named e [] other each last k = last
or_named e (r ∷ rs) other each last zero = each.0
or_named e (r ∷ rs) other each last (suc k) = or_named e rs other each.1 last k

pub row_named : (e : List ℕ) {h : Header} {p : ℕ} → header_of e ≡ found h p → (k : ℕ) → Named e (row_in h.lists k).texts
row_named e {h} w = or_named e h.lists.fields (field_of []) (fields_named e w) (record { name = no_string e; type_name = no_string e })

-- the characters of its name, and of its type's, are the bytes that stand there
module _ (e : List ℕ) {h : Header} {p : ℕ} (w : header_of e ≡ found h p) (k : ℕ) where
  pub name_stands : let t = (row_in h.lists k).texts.name in characters e t ≡ take t.len (drop t.place e)
  name_stands = (read_whole e (row_in h.lists k).texts.name (row_named e w k).name).bytes

  pub type_stands : let t = (row_in h.lists k).texts.type_name in characters e t ≡ take t.len (drop t.place e)
  type_stands = (read_whole e (row_in h.lists k).texts.type_name (row_named e w k).type_name).bytes
