-- The records of an accepted header's fields stand one after the other in its envelope, each with at least 36 bytes besides its name and its
-- type's name.
use Prim.Native.Nat.{ℕ, zero, suc, ◌+◌, ◌≤◌}
use mathlib.Core.Path.{◌≡◌, refl}
use mathlib.Core.Bool.{Bool, true, false}
use mathlib.Core.List.{List, []}
use native.Mathlib.Numerals.{add-one}
use native.Mathlib.Omega.{arith}
use borrow.Author.Tests.{leb-true}
use lib.Dec.{leb}
use lib.ListN.{length, get_or, take, drop}
use Rattle.numbers.specs.Choice.{pick}
use Rattle.numbers.specs.Numbers.{little}
use Rattle.numbers.proofs.Parts.{cut_length}
use Rattle.utf8.specs.WellFormed.{well_formed}
use Rattle.wire.specs.Reading.{Step, found, refused, Rule, ◌>>=◌, give, below, listed, number, tested}
use Rattle.wire.proofs.Laws.{never, pick_found, bound, judged_found}
use Rattle.text.specs.Strings.{string, string_of}
use Rattle.frames.specs.Frames.{record_head, record_body, record_of}
use Rattle.frames.proofs.Laws.{head_found}
use Rattle.rows.specs.Words.{field_of}
use Rattle.rows.specs.declared.Text.{Text}
use Rattle.rows.specs.declared.FieldHead.{FieldHead}
use Rattle.rows.specs.declared.FieldTexts.{FieldTexts}
use Rattle.rows.specs.declared.FieldRow.{FieldRow}
use Rattle.records.specs.Records.{repetitive, repetition, field_head, field_texts, field}
use Rattle.chain_moves.specs.Distances.{sum_below}
use Rattle.header.specs.Header.{Header, field_list}
use Rattle.header.specs.Tables.{header_of, record_at}
use Rattle.header.proofs.HeaderLaws.{header_read}
use Rattle.header.proofs.PlaceLaws.{record_places}
use Rattle.tree.proofs.Frames.{closed_sound}
use Rattle.listing.specs.Lines.{row_in}

-- what is read moves the place on

number_moves : (k : ℕ) (s : List ℕ) (at : ℕ) {v p : ℕ} → number k s at ≡ found v p → p ≡ at + k
unfolding number
number_moves k s at {v} {p} e = let (_, g) = pick_found (leb (at + k) (length s)) _ _ v p e in cc

tested_moves : (k : ℕ) (verdict : ℕ → ℕ) (s : List ℕ) (at : ℕ) {v p : ℕ} → tested k verdict s at ≡ found v p → p ≡ at + k
tested_moves k verdict s at e = number_moves k s at (judged_found verdict at (number k s at) e).0

repetition_moves : (flags : ℕ) (s : List ℕ) (at : ℕ) {v p : ℕ} → repetition flags s at ≡ found v p → at ≤ p
unfolding repetition
repetition_moves flags s at {v} {p} = by (repetitive flags)
  where
    by : (b : Bool) → pick {A = Rule ℕ} b (number 8) (give 0) s at ≡ found v p → at ≤ p
    by true e = let m = number_moves 8 s at e in omega arith
    by false e = let same : at ≡ p = cc in omega arith

-- a string has its length and its characters, and lies in its container
string_moves : (s : List ℕ) (at : ℕ) {t : Text} {p : ℕ} → string s at ≡ found t p → (p ≡ at + 4 + t.len) × (p ≤ length s)
unfolding string_of
string_moves s at {t} {p} e =
    let (_, e₁) = pick_found (leb (at + 4) (length s)) _ _ t p e in
    let (fits, e₂) = pick_found (leb (at + 4 + little 4 s at) (length s)) _ _ t p e₁ in
    let (_, e₃) = pick_found (well_formed (take (little 4 s at) (drop (at + 4) s))) _ _ t p e₂ in
    let is : ◌≡◌ {A = Text} (record { place = at + 4; len = little 4 s at }) t = cc in
    let end : at + 4 + little 4 s at ≡ p = cc in
    let l = leb-true (at + 4 + little 4 s at) (length s) fits in
    (rw (← is) (omega arith), omega arith)

head_moves : (n : ℕ) (s : List ℕ) (at : ℕ) {h : FieldHead} {p : ℕ} → field_head n s at ≡ found h p → at + 16 ≤ p
unfolding field_head
head_moves n s at {h} {p} =
    let made : ℕ → ℕ → ℕ → ℕ → ℕ → ℕ → FieldHead = λ version type_version parent role flags times. record { field_version = version; type_version = type_version; parent = record { 0 = parent }; role = role; flags = flags; repetition = times } in
    let six : ℕ → ℕ → ℕ → ℕ → ℕ → ℕ → Rule FieldHead = λ version type_version parent role flags times. give (made version type_version parent role flags times) in
    let five : ℕ → ℕ → ℕ → ℕ → ℕ → Rule FieldHead = λ version type_version parent role flags. repetition flags >>= six version type_version parent role flags in
    let four : ℕ → ℕ → ℕ → ℕ → Rule FieldHead = λ version type_version parent role. tested 2 (listed 3) >>= five version type_version parent role in
    let three : ℕ → ℕ → ℕ → Rule FieldHead = λ version type_version parent. tested 2 (listed 4) >>= four version type_version parent in
    let two : ℕ → ℕ → Rule FieldHead = λ version type_version. tested 4 (below n) >>= three version type_version in
    let one : ℕ → Rule FieldHead = λ version. number 4 >>= two version in
    bound On (number 4) one s at (λ version p₁ e₁.
    bound On (number 4) (two version) s p₁ (λ type_version p₂ e₂.
    bound On (tested 4 (below n)) (three version type_version) s p₂ (λ parent p₃ e₃.
    bound On (tested 2 (listed 4)) (four version type_version parent) s p₃ (λ role p₄ e₄.
    bound On (tested 2 (listed 3)) (five version type_version parent role) s p₄ (λ flags p₅ e₅.
    bound On (repetition flags) (six version type_version parent role flags) s p₅ (λ times p₆ e₆ g.
    let m₁ = number_moves 4 s at e₁ in
    let m₂ = number_moves 4 s p₁ e₂ in
    let m₃ = tested_moves 4 (below n) s p₂ e₃ in
    let m₄ = tested_moves 2 (listed 4) s p₃ e₄ in
    let m₅ = tested_moves 2 (listed 3) s p₄ e₅ in
    let m₆ = repetition_moves flags s p₅ e₆ in
    let read : found (made version type_version parent role flags times) p₆ ≡ found h p = g in
    let end : p₆ ≡ p = cc in
    omega arith))))))
  where
    On : FieldHead → ℕ → Type 0
    On _ p = at + 16 ≤ p

-- the bytes of the two strings of a field that are listed
abbrev pub named : FieldTexts → ℕ
named t = t.name.len + t.type_name.len

texts_move : (s : List ℕ) (at : ℕ) {t : FieldTexts} {p : ℕ} → field_texts s at ≡ found t p → (at + 16 + named t ≤ p) × (p ≤ length s)
unfolding field_texts
texts_move s at {t} {p} =
    bound On string (λ name. string >>= (λ type. string >>= (λ alias. string >>= (λ description. give (made name type alias description))))) s at (λ name p₁ e₁.
    bound On string (λ type. string >>= (λ alias. string >>= (λ description. give (made name type alias description)))) s p₁ (λ type p₂ e₂.
    bound On string (λ alias. string >>= (λ description. give (made name type alias description))) s p₂ (λ alias p₃ e₃.
    bound On string (λ description. give (made name type alias description)) s p₃ (λ description p₄ e₄ g.
    let m₁ = (string_moves s at e₁).0 in
    let m₂ = (string_moves s p₁ e₂).0 in
    let m₃ = (string_moves s p₂ e₃).0 in
    let m₄ = string_moves s p₃ e₄ in
    let is : made name type alias description ≡ t = cc in
    let end : p₄ ≡ p = cc in
    rw (← is) (omega arith, omega arith)))))
  where
    On : FieldTexts → ℕ → Type 0
    On t p = (at + 16 + named t ≤ p) × (p ≤ length s)

    made : Text → Text → Text → Text → FieldTexts
    made name type alias description = record { name = name; type_name = type; type_alias = alias; description = description }

field_moves : (n : ℕ) (s : List ℕ) (at : ℕ) {r : FieldRow} {p : ℕ} → field n s at ≡ found r p → (at + 32 + named r.texts ≤ p) × (p ≤ length s)
unfolding field
field_moves n s at {r} {p} =
    bound On (field_head n) (λ h. field_texts >>= (λ t. give (record { head = h; texts = t }))) s at (λ h p₁ e₁.
    bound On field_texts (λ t. give (record { head = h; texts = t })) s p₁ (λ t p₂ e₂ g.
    let m₁ = head_moves n s at e₁ in
    let m₂ = texts_move s p₁ e₂ in
    let is : ◌≡◌ {A = FieldRow} (record { head = h; texts = t }) r = cc in
    let end : p₂ ≡ p = cc in
    rw (← is) (omega arith, omega arith)))
  where
    On : FieldRow → ℕ → Type 0
    On r p = (at + 32 + named r.texts ≤ p) × (p ≤ length s)

-- a field's bytes, at the least
abbrev pub least : FieldRow → ℕ
least r = 36 + named r.texts

-- its record has so many, which lie in the container
record_moves : (strict : Bool) (n : ℕ) (s : List ℕ) (at : ℕ) {r : FieldRow} {p : ℕ} → record_of strict (field n) s at ≡ found r p
    → (at + least r ≤ p) × (at + least r ≤ length s)
unfolding record_of
record_moves strict n s at {r} {p} = by (record_head s at) refl
  where
    by : (x : Step ℕ) → record_head s at ≡ x → record_body strict (field n) s x ≡ found r p → (at + least r ≤ p) × (at + least r ≤ length s)
    by (found start stop) g w =
        let c = closed_sound (λ f. f) strict stop (field n (take stop s) start) r p w in
        let m = field_moves n (take stop s) start c.inner in
        let h = (head_found s at g).1 in
        let cut = cut_length stop s in
        let q = c.stops in
        (omega arith, omega arith)
    by (refused f) g w = never w

-- the records before record k end where it starts
module _ (strict : Bool) (s : List ℕ) (at : ℕ) {rows : List FieldRow} {p : ℕ} (e : field_list strict s at ≡ found rows p) where
  abbrev least_of : ℕ → ℕ
  least_of k = least (get_or rows k (field_of []))

  sum_places : (k : ℕ) → k ≤ length rows → sum_below least_of k ≤ record_at s (at + 8) k
  unfolding sum_below
  sum_places zero l = omega arith
  sum_places (suc k) l =
      let r = sum_places k (omega arith) in
      let m = (record_moves strict (length rows) s (record_at s (at + 8) k) (record_places strict s at rows p e k (field_of []) (omega arith))).0 in
      let n : record_at s (at + 8) (k + 1) ≡ record_at s (at + 8) (suc k) = rw (add-one k) in
      omega arith

  sum_inside : (n : ℕ) → n ≡ length rows → sum_below least_of n ≤ length s
  unfolding sum_below
  sum_inside zero l = omega arith
  sum_inside (suc k) l =
      let r = sum_places k (omega arith) in
      let m = (record_moves strict (length rows) s (record_at s (at + 8) k) (record_places strict s at rows p e k (field_of []) (omega arith))).1 in
      omega arith

-- all fields have at most the envelope's bytes
pub fields_inside : (e : List ℕ) {h : Header} {p : ℕ} → header_of e ≡ found h p → sum_below (λ k. least (row_in h.lists k)) (length h.lists.fields) ≤ length e
fields_inside e {h} w =
    let r = header_read e w in
    let m = sum_inside r.versions.strict (take r.stop e) h.lists.fields_at r.parts.fields_are (length h.lists.fields) refl in
    let cut = cut_length r.stop e in
    omega arith
