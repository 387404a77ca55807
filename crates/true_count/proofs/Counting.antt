-- A Bit page is refused as decoding refuses it, and where it is not, the ones of its bytes are its true elements.
-- Assumes nothing.
use mathlib.Core.Path.{◌≡◌, refl, sym, ap, ◌∙◌, subst}
use mathlib.Core.Bool.{Bool, true, false, false≢true}
use mathlib.Core.List.{List, [], ◌∷◌}
use mathlib.Core.Logic.{◌⊎◌, inl, inr, ⊎_elim}
use Prim.Native.Nat.{ℕ, ◌+◌, ◌/◌, ◌%◌, ◌^◌, ◌<◌, ◌≤◌}
use native.Mathlib.Omega.{arith}
use lib.Count.{ones}
use lib.Dec.{leb, eqb, lit<}
use lib.ListN.{length, take, get_or}
use lib.Seq.{length-take-le}
use borrow.Author.Tests.{le-leb, ltb-true}
use Rattle.numbers.specs.Choice.{pick}
use Rattle.numbers.specs.Numbers.{little, trailer}
use Rattle.outcome.specs.Outcome.{Outcome, is_accepted, RefusalTells}
use Rattle.outcome.proofs.Outcomes.{refusal_tells}
use Rattle.column_type.specs.Types.{known, widths}
use Rattle.coding.proofs.Bits.{length_unpacked}
use Rattle.page_rules.specs.Page.{accept, refuse, unless, RefusedBy, readable, most_elements, size_of, elements, checksum_right, unused_clear, decode_outcome, chosen}
use Rattle.page_rules.proofs.Types.{bit_size}
use Rattle.page_rules.proofs.Laid.{chosen_left, elements_bit}
use Rattle.page_rules.proofs.Decoding.{unless_by, Decodes, decodes, accepted, clear_byte, decoded_accepted}
use Rattle.true_count.specs.True.{OutcomeTells, trues, bit_type, count_outcome, CountsDecoded, RefusedAlike, RefusedAsDecoding, CountNumbers}
use Rattle.true_count.proofs.Bits.{Bytes, little_front, trues_bytes}
use Rattle.std.specs.Prelude.{Ok, Err}

pub outcome_tells : OutcomeTells
unfolding OutcomeTells RefusalTells
outcome_tells (Ok m) (Ok k) e = ap Ok (ap (λ (o : Outcome). get_or o.counts 0 0) e)
outcome_tells (Ok m) (Err k) e = absurd (refusal_tells 4 k 1 (m ∷ []) (lit< tt) (sym e))
outcome_tells (Err m) (Ok k) e = absurd (refusal_tells 4 m 1 (k ∷ []) (lit< tt) e)
outcome_tells (Err m) (Err k) e = ap Err (ap (λ (o : Outcome). o.number) e)

-- no more elements are true than there are
trues_few : (xs : List ℕ) → trues xs ≤ length xs
unfolding trues
trues_few [] = omega arith
trues_few (x ∷ xs) = by (eqb x 1) (trues_few xs)
  where
    by : (b : Bool) → trues xs ≤ length xs → pick b 1 0 + trues xs ≤ length (x ∷ xs)
    by true h = omega arith
    by false h = omega arith

-- the numbers of its refusals
abbrev numbers : List ℕ
numbers = 10 ∷ 21 ∷ 22 ∷ 24 ∷ []

-- a refusal is no acceptance
refused_by_lem : (ks : List ℕ) (o : Outcome) → RefusedBy ks o → is_accepted o ≡ false
refused_by_lem [] o r = absurd r
refused_by_lem (k ∷ ks) o (inl e) = ap is_accepted e
refused_by_lem (k ∷ ks) o (inr r) = refused_by_lem ks o r

module _ (n : ℕ) (checksum : Bool) (page : List ℕ) where
  -- what decoding the page to n lent words answers
  abbrev pub answer : Outcome
  answer = decode_outcome bit_type n checksum page n 0

  abbrev pub Accepts : Type 0
  Accepts = Decodes bit_type n checksum page n 0

  pub accepts : (m : ℕ) → accept m ≡ answer → Accepts
  accepts m e = decodes bit_type n checksum page n 0 (ap is_accepted (sym e))

  said : (b : Bool) → is_accepted answer ≡ b → pick b (accept (trues (elements bit_type n page))) answer ≡ count_outcome n checksum page
  unfolding count_outcome
  said b e = rw e

  pub refused_so : (k : ℕ) → refuse k ≡ answer → refuse k ≡ count_outcome n checksum page
  refused_so k e = e ∙ said false (ap is_accepted (sym e))

  pub counted_so : (m : ℕ) → accept m ≡ answer → accept (trues (elements bit_type n page)) ≡ count_outcome n checksum page
  counted_so m e = said true (ap is_accepted (sym e))

  count_elements : length (elements bit_type n page) ≡ n
  count_elements = ap length (elements_bit bit_type n page refl) ∙ length_unpacked n 0 page

  -- a front of the page, without its checksum
  pub front_long : (size : ℕ) → Accepts → size ≤ (n + 7) / 8 → length (take size page) ≡ size
  front_long size d h = length-take-le size page (omega (arith, bit_size bit_type n refl, d.sized.long))

  -- the ones of the page's bytes are its true elements
  pub trues_counted : Bytes page → Accepts → ones (little (length (take ((n + 7) / 8) page)) (take ((n + 7) / 8) page) 0) ≡ trues (elements bit_type n page)
  trues_counted bytes d =
      let clear : (n % 8 ≡ 0 → ⊥) → get_or page (0 + n / 8) 0 < 2 ^ (n % 8) = λ other.
      let t = ltb-true (get_or page (n / 8) 0) (2 ^ (n % 8)) (clear_byte bit_type n page refl other ∙ d.clear) in
      let z : 0 + n / 8 ≡ n / 8 = omega arith in
      rw z t in
      ap (λ (k : ℕ). ones (little k (take ((n + 7) / 8) page) 0)) (front_long ((n + 7) / 8) d (omega arith))
      ∙ ap ones (little_front ((n + 7) / 8) ((n + 7) / 8) page (omega arith))
      ∙ sym (trues_bytes page bytes ((n + 7) / 8) n 0 (omega arith) (omega arith) clear)
      ∙ ap trues (sym (elements_bit bit_type n page refl))

  -- neither 23 nor 20: Bit pages are read, and n words have room for n elements
  numbers_by : (answer ≡ accept n) ⊎ RefusedBy numbers answer
  unfolding decode_outcome known widths
  numbers_by =
      unless_by (leb n most_elements) 10 (21 ∷ 22 ∷ 24 ∷ []) (accept n) _
      (unless_by (eqb (length page) (size_of bit_type n + trailer checksum)) 21 (22 ∷ 24 ∷ []) (accept n) _
      (unless_by (checksum_right checksum (size_of bit_type n) page) 22 (24 ∷ []) (accept n) _
      (unless_by (unused_clear bit_type n page) 24 [] (accept n) _
      (inl (rw (le-leb (0 + n) n (omega arith)))))))

pub count_numbers : CountNumbers
unfolding CountNumbers
count_numbers n checksum page =
    ⊎_elim (λ e. inl (record {
      count = trues (elements bit_type n page);
      few = omega (arith, trues_few (elements bit_type n page), count_elements n checksum page);
      is_count = sym (counted_so n checksum page n (sym e));
    }))
    (λ r. inr (subst (RefusedBy numbers) (said n checksum page false (refused_by_lem numbers _ r)) r))
    (numbers_by n checksum page)

pub counts_decoded : CountsDecoded
unfolding CountsDecoded
counts_decoded n checksum page old start e =
    let d = decodes bit_type n checksum page (length old) start e in
    let a = accepted bit_type n checksum page n 0 d.sized d.right d.clear (le-leb (0 + n) n (omega arith)) in
    let c = ap (λ (l : List ℕ). chosen n l start) (sym (decoded_accepted bit_type n checksum page old start e))
    ∙ chosen_left old (elements bit_type n page) start n (count_elements n checksum page) d.room in
    sym (counted_so n checksum page n a) ∙ ap (λ (l : List ℕ). accept (trues l)) (sym c)

-- what decoding answers with room enough (`free`) and to other words (`lent`): both refuse alike, and not by 20, or the room alone decides
abbrev RoomAside : ℕ → Bool → Outcome → Outcome → Type 0
RoomAside n room free lent = ((lent ≡ free) × (eqb free.number 20 ≡ false)) ⊎ ((free ≡ accept n) × (lent ≡ unless room 20 (accept n)))

-- one test more
unless_aside : (n : ℕ) (room good : Bool) (k : ℕ) (free lent : Outcome) → eqb k 20 ≡ false → RoomAside n room free lent → RoomAside n room (unless good k free) (unless good k lent)
unless_aside n room true k free lent e b = b
unless_aside n room false k free lent e b = inl (refl, e)

room_aside_lem : (n : ℕ) (checksum : Bool) (page : List ℕ) (words start : ℕ) → RoomAside n (leb (start + n) words) (answer n checksum page) (decode_outcome bit_type n checksum page words start)
unfolding decode_outcome
room_aside_lem n checksum page words start =
    let room : Bool = leb (start + n) words in
    unless_aside n room (readable bit_type) 23 _ _ refl
    (unless_aside n room (leb n most_elements) 10 _ _ refl
    (unless_aside n room (eqb (length page) (size_of bit_type n + trailer checksum)) 21 _ _ refl
    (unless_aside n room (checksum_right checksum (size_of bit_type n) page) 22 _ _ refl
    (unless_aside n room (unused_clear bit_type n page) 24 _ _ refl
    (inr (rw (le-leb (0 + n) n (omega arith)), refl))))))

-- a refusal where only room can be missing is 20
only_20 : (n k : ℕ) (room : Bool) → unless room 20 (accept n) ≡ refuse k → k ≡ 20
only_20 n k true e = absurd (false≢true (ap is_accepted (sym e)))
only_20 n k false e = ap (λ (o : Outcome). o.number) (sym e)

pub refused_as_decoding : RefusedAsDecoding
unfolding RefusedAsDecoding
refused_as_decoding n checksum page words start = by (room_aside_lem n checksum page words start)
  where
    by : RoomAside n (leb (start + n) words) (answer n checksum page) (decode_outcome bit_type n checksum page words start)
        → RefusedAlike n checksum page (decode_outcome bit_type n checksum page words start)
    by (inl (same, other)) =
        record {
          same_number = λ k e _. sym (refused_so n checksum page k (sym e ∙ same));
          room_aside = λ e. absurd (false≢true (sym other ∙ ap (λ (o : Outcome). eqb o.number 20) (sym same ∙ e)));
        }
    by (inr (free, only)) =
        record {
          same_number = λ k e other. absurd (other (only_20 n k (leb (start + n) words) (sym only ∙ e)));
          room_aside = λ _. sym (counted_so n checksum page n (sym free));
        }
