-- From the scan of a header to the sum of its moves.
use Prim.Native.Nat.{ℕ}
use mathlib.Core.Path.{◌≡◌, refl, sym, ap, subst, ◌∙◌}
use mathlib.Core.Bool.{true}
use mathlib.Core.List.{List}
use native.Mathlib.Omega.{arith}
use lib.ListN.{length, take, replicate, length-replicate, length-map}
use Rattle.numbers.specs.Rows.{over}
use Rattle.rows.specs.Words.{most_fields}
use Rattle.numbers.proofs.Parts.{over_length}
use lib.Seq.{take_at}
use Rattle.wire.specs.declared.Fault.{Fault}
use Rattle.wire.specs.Reading.{Step, found, refused, mapped}
use Rattle.wire.proofs.Laws.{Mapped, mapped_found}
use Rattle.rows.specs.declared.FieldRow.{FieldRow}
use Rattle.parents.specs.Parents.{Inside, all_reach}
use Rattle.chain_moves.specs.Moves.{all_moves, moves_of}
use Rattle.chain_moves.specs.Distances.{Rooted}
use Rattle.chain_moves.proofs.Distances.{moves_front}
use Rattle.header.specs.Header.{Header}
use Rattle.header.specs.Tables.{header_of, parents_of}
use Rattle.header.proofs.HeaderLaws.{header_reaches, fields_few, parents_inside}
use Rattle.header_payload.specs.Answers.{scan_of}
use Rattle.header_payload.specs.Settled.{kept, Settled}
use Rattle.header_payload.specs.declared.HeaderScan.{HeaderScan}
use Rattle.moves.specs.Moves.{answer, outcome_of, Answered}
use Rattle.moves.specs.Answer.{MovesAnswer}
use Rattle.std.specs.Prelude.{Ok, Err}

-- the number in an answer
abbrev pub told : MovesAnswer → ℕ
told (Ok total) = total
told (Err k) = k

pub answered : (x : Step Header) {r : MovesAnswer} → r ≡ answer x → Answered x r
answered x e = record { answers = e; reports = ap outcome_of e }

pub field_count_lem : (rows : List FieldRow) → length (parents_of rows) ≡ length rows
field_count_lem rows = length-map rows (λ (r : FieldRow). r.head.parent.0)

-- in an accepted header every parent is a field, and every chain ends
pub header_rooted : (e : List ℕ) {h : Header} {p : ℕ} → header_of e ≡ found h p → Rooted (parents_of h.lists.fields)
header_rooted e {h} w =
    let n = sym (field_count_lem h.lists.fields) in
    record {
      fields = subst (Inside (parents_of h.lists.fields)) n (parents_inside e w);
      ends = subst (λ (k : ℕ). all_reach (parents_of h.lists.fields) k ≡ true) n (header_reaches e w);
    }

-- an accepted header has the sum of its moves
pub answer_found : {x : Step Header} {h : Header} {p : ℕ} → x ≡ found h p → answer x ≡ Ok (all_moves (parents_of h.lists.fields))
unfolding answer
answer_found e = rw e

-- a sum is that of an accepted header
pub answer_sum : (x : Step Header) {total : ℕ} → answer x ≡ Ok total
    → (h : Header) × (p : ℕ) × (x ≡ found h p) × (total ≡ all_moves (parents_of h.lists.fields))
unfolding answer
answer_sum (found h p) e = (h, p, refl, sym (ap told e))
answer_sum (refused g) e = absurd (let z : ◌≡◌ {A = ℕ} 0 1 = cc in omega arith)

pub answer_refused : {x : Step Header} {g : Fault} → x ≡ refused g → Answered x (Err g.number)
unfolding answer
answer_refused {x} e = answered x (rw e)

-- what is counted over the parents that a scan left
module _ (e : List ℕ) {scan : HeaderScan} {q : ℕ} (w : found scan q ≡ mapped scan_of (header_of e)) where
  m : Mapped scan_of (header_of e) scan q
  m = mapped_found scan_of (header_of e) w

  count : scan.lists.fields ≡ length m.value.lists.fields
  count = ap (λ (x : HeaderScan). x.lists.fields) m.is

  module _ {p f₀ f r₀ r c₀ c a₀ a : List ℕ} (k : Settled (header_of e) (replicate most_fields 0) p f₀ f r₀ r c₀ c a₀ a) where
    parents_are_lem : p ≡ over (parents_of m.value.lists.fields) (replicate most_fields 0)
    unfolding kept
    parents_are_lem = rw m.was at k.parents_are

    -- the array is as long as it was
    pub parents_long : most_fields ≡ length p
    parents_long =
        let few = fields_few e m.was in
        let n = field_count_lem m.value.lists.fields in
        let l = length-replicate {A = ℕ} most_fields 0 in
        sym (ap length parents_are_lem ∙ over_length (parents_of m.value.lists.fields) (replicate most_fields 0) (omega arith) ∙ l)

    pub scan_counted : {total : ℕ} → total ≡ moves_of p scan.lists.fields → Answered (header_of e) (Ok total)
    scan_counted sum =
        let rows = m.value.lists.fields in
        let n = count in
        let long : length (parents_of rows) ≡ scan.lists.fields = field_count_lem rows ∙ sym count in
        let front : take scan.lists.fields p ≡ parents_of rows = ap (take scan.lists.fields) parents_are_lem ∙ take_at (parents_of rows) _ scan.lists.fields long in
        let few = fields_few e m.was in
        answered (header_of e)
        (ap Ok (sum ∙ moves_front p scan.lists.fields (parents_of rows) (omega arith) front long (header_rooted e m.was)) ∙ sym (answer_found m.was))
