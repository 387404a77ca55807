-- The parent chains of a payload that a scan found: refusal 15, or the header.
use Prim.Native.Nat.{ℕ, ◌+◌, ◌≤◌}
use mathlib.Core.Path.{◌≡◌, sym, ap, subst, ◌∙◌}
use mathlib.Core.Bool.{Bool}
use mathlib.Core.List.{List}
use native.Mathlib.Omega.{arith}
use lib.ListN.{length, take, length-map}
use lib.Seq.{take_at}
use Rattle.numbers.specs.Rows.{over}
use Rattle.wire.specs.declared.Fault.{Fault}
use Rattle.wire.specs.Reading.{Step, found, refused, mapped}
use Rattle.wire.proofs.Laws.{Mapped, mapped_found}
use Rattle.frames.specs.Frames.{record_of, at_most}
use Rattle.frames.proofs.Laws.{closed_found}
use Rattle.frames.proofs.Loops.{list_most}
use Rattle.envelope.specs.Envelope.{whole}
use Rattle.rows.specs.Words.{most_fields}
use Rattle.rows.specs.declared.FieldNumber.{FieldNumber}
use Rattle.rows.specs.declared.FieldRow.{FieldRow}
use Rattle.records.specs.Records.{field}
use Rattle.parents.specs.Parents.{Inside, chains_of}
use Rattle.std.specs.Prelude.{Some, None}
use Rattle.header.specs.Header.{Header, lists, payload}
use Rattle.header.specs.Tables.{chain_fault, endless_fault, chained, parents_of}
use Rattle.header.proofs.ListLaws.{Parts, lists_parts}
use Rattle.header.proofs.BoundLaws.{parents_below, map_below}
use Rattle.header.proofs.HeaderLaws.{payload_parts, list_room_of, chained_refused}
use Rattle.header_payload.specs.Answers.{scan_of}
use Rattle.header_payload.specs.Settled.{kept, Settled}
use Rattle.header_payload.specs.declared.HeaderLists.{HeaderLists}
use Rattle.header_payload.specs.declared.HeaderScan.{HeaderScan}
use Rattle.header_scan.proofs.RowLaws.{rows_end, rows_endless, rows_lowest}

abbrev refusing : Fault → Step Header
refusing f = refused f

module _ (strict : Bool) (s : List ℕ) {p₀ p f₀ f r₀ r c₀ c a₀ a : List ℕ} (k : Settled (whole strict (payload strict) s 4) p₀ p f₀ f r₀ r c₀ c a₀ a) where
  -- a refused payload is a refused header, and leaves the same
  pub settled_still : {g : Fault} → whole strict (payload strict) s 4 ≡ refused g → Settled (chained s (whole strict (payload strict) s 4)) p₀ p f₀ f r₀ r c₀ c a₀ a
  settled_still e = subst (λ (x : Step Header). Settled x p₀ p f₀ f r₀ r c₀ c a₀ a) (e ∙ sym (chained_refused s e)) k

  module _ {scan : HeaderScan} {q : ℕ} (e : found scan q ≡ mapped scan_of (whole strict (payload strict) s 4)) where
    m : Mapped scan_of (whole strict (payload strict) s 4) scan q
    m = mapped_found scan_of (whole strict (payload strict) s 4) e

    is_lists : scan.lists ≡ (scan_of m.value).lists
    is_lists = ap (λ (x : HeaderScan). x.lists) m.is

    count : length m.value.lists.fields ≡ scan.lists.fields
    count = sym (ap (λ (x : HeaderLists). x.fields) is_lists)

    place : scan.lists.fields_at ≡ m.value.lists.fields_at
    place = ap (λ (x : HeaderLists). x.fields_at) is_lists

    stood : (end : ℕ) × (payload strict s 4 ≡ found m.value end)
    stood = let c = closed_found (λ g. g) strict (length s) (payload strict s 4) m.was in (c.end, c.was)

    parts : Parts strict s scan.lists.fields_at m.value.lists stood.0
    parts =
        lists_parts strict s scan.lists.fields_at
        (subst (λ (x : ℕ). lists strict s x ≡ found m.value.lists stood.0) (sym place) (payload_parts strict s stood.1))

    all_parents : p ≡ over (parents_of m.value.lists.fields) p₀
    unfolding kept
    all_parents = rw m.was at k.parents_are

    some_parents : take scan.lists.fields p ≡ parents_of m.value.lists.fields
    some_parents =
        ap (take scan.lists.fields) all_parents
        ∙ take_at (parents_of m.value.lists.fields) _ scan.lists.fields (length-map m.value.lists.fields (λ (r : FieldRow). r.head.parent.0) ∙ count)

    few : scan.lists.fields ≤ most_fields
    few = let l = list_most strict most_fields (λ n _. record_of strict (field n)) s scan.lists.fields_at parts.fields_are in let n = count in omega arith

    inside : Inside (parents_of m.value.lists.fields) scan.lists.fields
    inside i h =
        let n = count in
        let b = map_below (λ (r : FieldRow). r.head.parent.0) (length m.value.lists.fields) m.value.lists.fields (parents_below strict s scan.lists.fields_at parts.fields_are) i (omega arith) in
        omega arith

    -- the head of the list of fields lies in the bytes
    pub fields_room : scan.lists.fields_at + 8 ≤ length s
    fields_room = list_room_of strict (at_most most_fields) (λ n _. record_of strict (field n)) s scan.lists.fields_at parts.fields_are

    pub chain_refused : (g : FieldNumber) → chains_of p scan.lists.fields ≡ Some g → chained s (whole strict (payload strict) s 4) ≡ refused (chain_fault s scan.lists.fields_at g.0)
    unfolding chained
    chain_refused g w =
        let lowest = rows_lowest m.value.lists.fields p scan.lists.fields count some_parents few inside g w in
        let first : chained s (whole strict (payload strict) s 4) ≡ refused (endless_fault s m.value.lists)
        = rw (m.was, rows_endless m.value.lists.fields p scan.lists.fields count some_parents few inside g w) in
        first ∙ ap (λ (k : ℕ). refusing (chain_fault s m.value.lists.fields_at k)) lowest ∙ ap (λ (a : ℕ). refusing (chain_fault s a g.0)) (sym place)

    module _ (w : chains_of p scan.lists.fields ≡ None) where
      same : chained s (whole strict (payload strict) s 4) ≡ whole strict (payload strict) s 4
      unfolding chained
      same = rw (m.was, rows_end m.value.lists.fields p scan.lists.fields count some_parents few inside w)

      pub chains_end : found scan q ≡ mapped scan_of (chained s (whole strict (payload strict) s 4))
      chains_end = e ∙ ap (mapped scan_of) (sym same)

      pub settled_chained : Settled (chained s (whole strict (payload strict) s 4)) p₀ p f₀ f r₀ r c₀ c a₀ a
      settled_chained = subst (λ (x : Step Header). Settled x p₀ p f₀ f r₀ r c₀ c a₀ a) (sym same) k
