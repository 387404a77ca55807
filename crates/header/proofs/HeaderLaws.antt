-- What a header that was read has: how its envelope and payload were read, and the bounds of its numbers.
use Prim.Native.Nat.{ℕ, ◌+◌, ◌-◌, ◌/◌, ◌≤◌, ◌<◌}
use mathlib.Core.Path.{◌≡◌, refl, sym, ap, subst, ◌∙◌}
use mathlib.Core.Bool.{Bool, true}
use mathlib.Core.List.{List}
use borrow.Author.Tests.{leb-true, le-leb}
use lib.Dec.{leb, eqb}
use lib.ListN.{length, get_or, take}
use Rattle.numbers.specs.Choice.{both}
use Rattle.numbers.specs.Numbers.{little}
use Rattle.checksum.specs.Crc.{crc32}
use Rattle.wire.specs.declared.Fault.{Fault}
use Rattle.wire.specs.Reading.{Step, found, refused, Rule}
use Rattle.wire.proofs.Laws.{never, pick_found}
use Rattle.frames.specs.Frames.{list_of, list_stop, count_judged, record_of}
use Rattle.frames.proofs.Laws.{list_room, closed_found}
use Rattle.frames.proofs.Loops.{list_most}
use Rattle.numbers.specs.Lists.{Each}
use Rattle.numbers.proofs.Lists.{each_at}
use Rattle.envelope.specs.Envelope.{ceiling, checksum_of, whole, opened, enclosed, versioned, envelope, Versions}
use Rattle.rows.specs.Words.{most_fields, most_columns, most_aliases, field_width, column_width, alias_width, full_fields, full_columns, full_aliases}
use Rattle.rows.specs.declared.FieldRow.{FieldRow}
use Rattle.rows.specs.declared.ColumnRow.{ColumnRow}
use Rattle.records.specs.Records.{field, column, alias, texts}
use Rattle.records.specs.declared.HeaderTexts.{HeaderTexts}
use Rattle.records.proofs.Bounds.{Bytes, take_bytes}
use Rattle.parents.specs.Parents.{Inside, all_reach}
use Rattle.header.specs.Header.{Header, flags_of, lists, payload}
use Rattle.header.specs.Tables.{endless_fault, chained, header_of, parents_of, room_for}
use Rattle.header.proofs.ListLaws.{Parts, lists_parts}
use Rattle.header.proofs.PayloadLaws.{texts_refused, payload_lists}
use Rattle.header.proofs.BoundLaws.{parents_below, columns_below, bits_below, map_below}

-- the lists of a payload, where they stand
pub payload_parts : (strict : Bool) (s : List ℕ) {h : Header} {p : ℕ} → payload strict s 4 ≡ found h p → lists strict s h.lists.fields_at ≡ found h.lists p
payload_parts strict s {h} {p} e = by (texts s 4) refl
  where
    by : (x : Step HeaderTexts) → texts s 4 ≡ x → lists strict s h.lists.fields_at ≡ found h.lists p
    by (found t la) g =
        let l = payload_lists strict s 4 g e in
        subst (λ (x : ℕ). lists strict s x ≡ found h.lists p) (sym (lists_parts strict s la l).start) l
    by (refused f) g = never (sym (texts_refused strict s 4 g) ∙ e)

-- the head of a list that was found lies in the bytes
pub list_room_of : {A : Type 0} (strict : Bool) (verdict : ℕ → ℕ) (r : ℕ → List A → Rule A) (s : List ℕ) (at : ℕ) {rows : List A} {p : ℕ} → list_of strict verdict r s at ≡ found rows p → at + 8 ≤ length s
unfolding list_of count_judged
list_room_of {A} strict verdict r s at {rows} {p} e = by (list_stop s at) refl
  where
    by : (x : Step ℕ) → list_stop s at ≡ x → at + 8 ≤ length s
    by (found start stop) g = list_room s at g
    by (refused f) g = let w : list_of strict verdict r s at ≡ refused f = rw g in never (sym w ∙ e)

pub chained_refused : (s : List ℕ) {x : Step Header} {g : Fault} → x ≡ refused g → chained s x ≡ refused g
unfolding chained
chained_refused s e = rw e

-- an envelope that was opened has its checksum where its payload ends
pub opened_end : (supported : ℕ) (e : List ℕ) {v : Versions} {stop : ℕ} → opened supported e ≡ found v stop → (8 ≤ length e) × (stop ≡ length e - 4)
unfolding opened
opened_end supported e {v} {stop} o =
    let (_, e₁) = pick_found (leb (length e) ceiling) _ _ v stop o in
    let (eight, e₂) = pick_found (leb 8 (length e)) _ _ v stop e₁ in
    let (_, e₃) = pick_found (eqb (crc32 (take (length e - 4) e)) (checksum_of e)) _ _ v stop e₂ in
    let (_, e₄) = pick_found (both (leb 1 (little 2 e 2)) (leb (little 2 e 2) (little 2 e 0))) _ _ v stop e₃ in
    let (_, e₅) = pick_found (leb (little 2 e 2) supported) _ _ v stop e₄ in
    (leb-true 8 (length e) eight, cc)

-- an envelope

pub header_open : (e : List ℕ) {v : Versions} {stop : ℕ} → opened 1 e ≡ found v stop → header_of e ≡ chained (take stop e) (whole v.strict (payload v.strict) (take stop e) 4)
unfolding header_of versioned
header_open e {v} {stop} o =
    ap (λ (n : ℕ). chained (take n e) (versioned 1 (λ v. payload v.strict) e)) (sym (opened_end 1 e o).1) ∙ rw o

pub header_refused_lem : (e : List ℕ) {g : Fault} → opened 1 e ≡ refused g → header_of e ≡ refused g
unfolding header_of versioned chained
header_refused_lem e o = rw o

-- for the readers above: what a header that is accepted has

chained_found : (s : List ℕ) (x : Step Header) {h : Header} {p : ℕ} → chained s x ≡ found h p → (x ≡ found h p) × (all_reach (parents_of h.lists.fields) (length h.lists.fields) ≡ true)
unfolding chained
chained_found s (found g q) {h} {p} e =
    let (reach, same) = pick_found (all_reach (parents_of g.lists.fields) (length g.lists.fields)) (found g q) (endless_fault s g.lists) h p e in
    let header : g ≡ h = cc in
    (same, rw header at reach)
chained_found s (refused f) e = never e

-- a payload that was read: how, and its three lists
pub record PayloadRead (e : List ℕ) (h : Header) : Type 0 where
  pub versions : Versions
  pub stop : ℕ
  pub end : ℕ
  pub is_open : opened 1 e ≡ found versions stop
  pub parts : Parts versions.strict (take stop e) h.lists.fields_at h.lists end

pub payload_read : (e : List ℕ) {h : Header} {p : ℕ} → envelope 1 payload e ≡ found h p → PayloadRead e h
unfolding versioned
payload_read e {h} {p} w = by (opened 1 e) refl w
  where
    by : (x : Step Versions) → opened 1 e ≡ x → enclosed (λ v. payload v.strict) e x ≡ found h p → PayloadRead e h
    by (found v stop) o g =
        let c = closed_found (λ f. f) v.strict (length (take stop e)) (payload v.strict (take stop e) 4) g in
        record {
          versions = v;
          stop = stop;
          end = c.end;
          is_open = o;
          parts = lists_parts v.strict (take stop e) h.lists.fields_at (payload_parts v.strict (take stop e) c.was);
        }
    by (refused f) o g = never g

-- every parent of a payload that was read is one of its fields
pub payload_inside : (e : List ℕ) {h : Header} {p : ℕ} → envelope 1 payload e ≡ found h p → Inside (parents_of h.lists.fields) (length h.lists.fields)
payload_inside e {h} w =
    let r = payload_read e w in
    map_below (λ (r : FieldRow). r.head.parent.0) (length h.lists.fields) h.lists.fields (parents_below r.versions.strict (take r.stop e) h.lists.fields_at r.parts.fields_are)

pub header_payload : (e : List ℕ) {h : Header} {p : ℕ} → header_of e ≡ found h p → envelope 1 payload e ≡ found h p
unfolding header_of
header_payload e w = (chained_found (take (length e - 4) e) (envelope 1 payload e) w).0

pub header_reaches : (e : List ℕ) {h : Header} {p : ℕ} → header_of e ≡ found h p → all_reach (parents_of h.lists.fields) (length h.lists.fields) ≡ true
unfolding header_of
header_reaches e w = (chained_found (take (length e - 4) e) (envelope 1 payload e) w).1

pub header_read : (e : List ℕ) {h : Header} {p : ℕ} → header_of e ≡ found h p → PayloadRead e h
header_read e w = payload_read e (header_payload e w)

module _ (e : List ℕ) {h : Header} {p : ℕ} (w : header_of e ≡ found h p) where
  pub fields_few : length h.lists.fields ≤ most_fields
  fields_few = let r = header_read e w in list_most r.versions.strict most_fields (λ n _. record_of r.versions.strict (field n)) (take r.stop e) h.lists.fields_at r.parts.fields_are

  pub columns_few : length h.lists.columns ≤ most_columns
  columns_few =
      let r = header_read e w in
      list_most r.versions.strict most_columns (λ _ _. record_of r.versions.strict (column (length h.lists.fields))) (take r.stop e) h.lists.columns_at r.parts.columns_are

  aliases_few : length h.lists.aliases ≤ most_aliases
  aliases_few =
      let r = header_read e w in
      list_most r.versions.strict most_aliases (λ _ _. record_of r.versions.strict (alias (flags_of h.lists.fields) (length h.lists.columns))) (take r.stop e) h.lists.aliases_at r.parts.aliases_are

  -- full tables have room for its rows
  pub full_room : room_for full_fields full_columns full_aliases h.lists ≡ true
  full_room =
      rw (
        le-leb (length h.lists.fields) (full_fields / field_width) fields_few,
        le-leb (length h.lists.columns) (full_columns / column_width) columns_few,
        le-leb (length h.lists.aliases) (full_aliases / alias_width) aliases_few,
      )

  pub parents_inside : Inside (parents_of h.lists.fields) (length h.lists.fields)
  parents_inside = payload_inside e (header_payload e w)

  pub column_fields : Each (λ (r : ColumnRow). r.field.0 < length h.lists.fields) h.lists.columns
  column_fields = let r = header_read e w in columns_below r.versions.strict (length h.lists.fields) (take r.stop e) h.lists.columns_at r.parts.columns_are

  pub column_sizes : Bytes e → Each (λ (r : ColumnRow). r.bits < 65536) h.lists.columns
  column_sizes b =
      let r = header_read e w in
      bits_below r.versions.strict (length h.lists.fields) (take r.stop e) h.lists.columns_at (take_bytes r.stop e b) r.parts.columns_are

  -- of column i
  pub bits_small : Bytes e → (d : ColumnRow) (i : ℕ) → i < length h.lists.columns → (get_or h.lists.columns i d).bits < 65536
  bits_small b d i = each_at (λ (r : ColumnRow). r.bits < 65536) h.lists.columns d i (column_sizes b)
