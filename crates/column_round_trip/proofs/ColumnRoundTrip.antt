-- The round trip of a column, both ways, page by page.
-- Assumes nothing.
use Prim.Native.Nat.{ℕ, suc, ◌+◌, ◌≤◌}
use mathlib.Core.Path.{◌≡◌, refl, sym, ap, ◌∙◌, subst}
use mathlib.Core.Bool.{Bool, true, false}
use mathlib.Core.List.{List, [], ◌∷◌, ◌++◌}
use native.Mathlib.Nat.{add-zero, zero-add}
use native.Mathlib.Omega.{arith}
use lib.ListN.{length, take, drop, length-append, length-drop, take-append-drop}
use lib.Seq.{take-take, take-add, take_at, drop-drop, length-take-le}
use Rattle.numbers.specs.Rows.{flat, over}
use Rattle.numbers.proofs.Choice.{clash}
use Rattle.outcome.specs.Outcome.{is_accepted}
use Rattle.coding.specs.Inverses.{Below}
use Rattle.coding.proofs.Below.{below_take, below_drop}
use Rattle.page_rules.specs.Page.{accept, chosen, decode_outcome, decoded}
use Rattle.page_rules.proofs.Laid.{chosen_left, length_left}
use Rattle.page_rules.proofs.Encoding.{encodes}
use Rattle.round_trip.specs.RoundTrip.{EncodeDecode, DecodeEncode}
use Rattle.round_trip.proofs.RoundTrip.{encode_decode, decode_encode}
use Rattle.column_rules.specs.declared.ColumnPage.{ColumnPage}
use Rattle.column_rules.proofs.Inside.{length_inside}
use Rattle.column_rules.specs.Column.{accept_all, page_bytes, page_outcome, page_decoded, Decoding, column_pages, index_of, in_turn, whole_column}
use Rattle.column_rules.specs.Statements.{page_elements, elements_of}
use Rattle.column_rules.proofs.TurnLaws.{Taken, is_single, page_accepted, turn_accepted, turn_refused, one_after_other}
use Rattle.column_rules.proofs.Ends.{all_left}
use Rattle.column_rules.proofs.Statements.{few_pages, rows_are_lem, before_it}
use Rattle.column_round_trip.specs.ColumnRoundTrip.{stored_size, EachAt, Written, EncodeDecodeColumn, EncodedAgain, DecodeEncodeColumn}

-- from words to pages and back

-- a page that was written is accepted, and leaves the words that it was written from
pub record Read (t : ℕ) (file words : List ℕ) (p : ColumnPage) (start : ℕ) (old : List ℕ) : Type 0 where
  pub is_accepted : is_accepted (page_outcome t file p (length old) start) ≡ true
  pub leaves : page_decoded t file p old start ≡ take start old ++ over (chosen p.elements words start) (drop start old)
  pub many : length (chosen p.elements words start) ≡ p.elements

read_back : (t : ℕ) (file words : List ℕ) (p : ColumnPage) (start : ℕ) (old : List ℕ) → Written t file words p start → start + p.elements ≤ length old → Read t file words p start old
unfolding EncodeDecode
read_back t file words p start old w h =
    let n : ℕ = p.elements in
    let r = encode_decode t n p.checksum words start w.room (stored_size p) w.accepted old start h in
    let s = is_single t file p old start w.is_inside in
    let e = encodes t n p.checksum words start (length w.room) (ap is_accepted w.accepted) in
    record {
      is_accepted = ap is_accepted (s.0 ∙ ap (λ (page : List ℕ). decode_outcome t n p.checksum page (length old) start) w.bytes_are ∙ r.0);
      leaves = s.1 ∙ ap (λ (page : List ℕ). decoded t n p.checksum page old start) w.bytes_are ∙ r.1;
      many = length-take-le n (drop start words) (omega (arith, length-drop start words, e.there));
    }

-- words from a place on, and those from where they end on
chosen_more : (n m : ℕ) (words : List ℕ) (start : ℕ) → chosen n words start ++ chosen m words (start + n) ≡ chosen (n + m) words start
chosen_more n m words start =
    ap (λ (l : List ℕ). take n (drop start words) ++ take m l) (sym (drop-drop n start words)) ∙ sym (take-add n m (drop start words))

module _ (t : ℕ) (file words : List ℕ) where
  all_read : (ps : List ColumnPage) (i start : ℕ) (old : List ℕ) → EachAt (Written t file words) ps start → start + elements_of ps ≤ length old
      → in_turn t file ps i start old ≡ record { outcome = accept_all (i + length ps); words = take start old ++ over (chosen (elements_of ps) words start) (drop start old) }
  unfolding in_turn elements_of
  all_read [] i start old w h = rw (add-zero i, take-append-drop start old)
  all_read (p ∷ ps) i start old w h =
      let n : ℕ = p.elements in
      let xs : List ℕ = chosen n words start in
      let ys : List ℕ = chosen (elements_of ps) words (start + n) in
      let left : List ℕ = take start old ++ over xs (drop start old) in
      let r = read_back t file words p start old w.0 (omega arith) in
      let long : length left ≡ length old = length_left old xs start n r.many (omega arith) in
      let next : i + suc (length ps) ≡ suc i + length ps = omega arith in
      turn_accepted t file p old start ps i r.is_accepted
      ∙ ap (in_turn t file ps (suc i) (start + n)) r.leaves
      ∙ all_read ps (suc i) (start + n) left w.1 (omega arith)
      ∙ rw (next, one_after_other old xs ys start n r.many (omega arith), chosen_more n (elements_of ps) words start)

pub encode_decode_column : EncodeDecodeColumn
unfolding EncodeDecodeColumn
encode_decode_column t file table words old few written room =
    few_pages t file table old few
    ∙ all_read t file words (column_pages table) 0 0 old written (omega arith)
    ∙ ap (λ (n : ℕ). record { outcome = accept_all n; words = over (take (elements_of (column_pages table)) words) old })
    (zero-add (length (column_pages table)) ∙ rows_are_lem t file table old few)

-- from pages to words and back

-- a page that is accepted is encoded again from words that have its elements
again : (t : ℕ) (file : List ℕ) (p : ColumnPage) (start : ℕ) (old words : List ℕ) → Below 256 file → Taken t file p old start
    → start + p.elements ≤ length words → chosen p.elements words start ≡ page_elements t file p → EncodedAgain t file words p start
unfolding DecodeEncode
again t file p start old words bytes k there same room h =
    let n : ℕ = p.elements in
    let long = length_inside file p k.is_inside in
    let left : chosen n (decoded t n p.checksum (page_bytes file p) old start) start ≡ page_elements t file p =
    ap (λ (l : List ℕ). chosen n l start) (sym (is_single t file p old start k.is_inside).1 ∙ k.leaves) ∙ chosen_left old (page_elements t file p) start n k.count k.room in
    let r =
    decode_encode t n p.checksum (page_bytes file p) old start (below_take 256 (stored_size p) (drop p.offset file) (below_drop 256 p.offset file bytes)) k.is_as_single
    words start there (same ∙ sym left) room (omega arith) in
    (r.0 ∙ ap accept long, r.1)

module _ (t : ℕ) (file : List ℕ) (bytes : Below 256 file) where
  -- the first of some pages that are all accepted, and those after it
  module _ (p : ColumnPage) (ps : List ColumnPage) (i start : ℕ) (old : List ℕ) (h : start ≤ length old) where
    abbrev left : List ℕ
    left = page_decoded t file p old start

    abbrev later : Decoding
    later = in_turn t file ps (suc i) (start + p.elements) left

    abbrev all : Decoding
    all = in_turn t file (p ∷ ps) i start old

    module _ (a : is_accepted (page_outcome t file p (length old) start) ≡ true) (e : is_accepted all.outcome ≡ true) where
      taken : Taken t file p old start
      taken = page_accepted t file p old start a

      -- the pages after it leave its elements
      first_again : EncodedAgain t file all.words p start
      unfolding flat
      first_again =
          let xs : List ℕ = page_elements t file p in
          let ys : List ℕ = flat (page_elements t file) ps in
          let k = taken in
          let l = all_left t file (p ∷ ps) i start old h e in
          let size : length xs ≤ length (xs ++ ys) = omega (arith, length-append xs ys) in
          let long : length all.words ≡ length old = ap length l.1 ∙ length_left old (xs ++ ys) start (length (xs ++ ys)) refl l.0 in
          let same : chosen p.elements all.words start ≡ xs =
          ap (λ (w : List ℕ). chosen p.elements w start) l.1 ∙ sym (take-take p.elements (length (xs ++ ys)) _ (omega (arith, k.count)))
          ∙ ap (take p.elements) (chosen_left old (xs ++ ys) start (length (xs ++ ys)) refl l.0) ∙ take_at xs ys p.elements k.count in
          again t file p start old all.words bytes k (omega (arith, k.room)) same

      room_left : start + p.elements ≤ length left
      room_left = omega (arith, taken.room, ap length taken.leaves ∙ length_left old (page_elements t file p) start p.elements taken.count taken.room)

      both_again : (start + p.elements ≤ length left → is_accepted later.outcome ≡ true → EachAt (EncodedAgain t file later.words) ps (start + p.elements))
          → EachAt (EncodedAgain t file all.words) (p ∷ ps) start
      both_again rest =
          let s = turn_accepted t file p old start ps i a in (
            first_again,
            subst (λ (d : Decoding). EachAt (EncodedAgain t file d.words) ps (start + p.elements)) (sym s)
                (rest room_left (ap (λ (d : Decoding). is_accepted d.outcome) (sym s) ∙ e)),
          )

  all_again : (ps : List ColumnPage) (i start : ℕ) (old : List ℕ) → start ≤ length old → is_accepted (in_turn t file ps i start old).outcome ≡ true
      → EachAt (EncodedAgain t file (in_turn t file ps i start old).words) ps start
  all_again [] i start old h e = tt
  all_again (p ∷ ps) i start old h e =
      by (all_again ps (suc i) (start + p.elements) (page_decoded t file p old start)) (is_accepted (page_outcome t file p (length old) start)) refl
    where
      by : (start + p.elements ≤ length (left p ps i start old h) → is_accepted (later p ps i start old h).outcome ≡ true
          → EachAt (EncodedAgain t file (later p ps i start old h).words) ps (start + p.elements))
          → (b : Bool) → is_accepted (page_outcome t file p (length old) start) ≡ b → EachAt (EncodedAgain t file (in_turn t file (p ∷ ps) i start old).words) (p ∷ ps) start
      by rest true a = both_again p ps i start old h a e rest
      by rest false a = clash e (ap (λ (d : Decoding). is_accepted d.outcome) (turn_refused t file p old start ps i a))

pub decode_encode_column : DecodeEncodeColumn
unfolding DecodeEncodeColumn
decode_encode_column t file table old few bytes =
    let b = before_it t file table old few in
    let ps : List ColumnPage = take (index_of (whole_column t file table old)) (column_pages table) in
    subst (λ (d : Decoding). EachAt (EncodedAgain t file d.words) ps 0) b
    (all_again t file bytes ps 0 0 old (omega arith) (ap (λ (d : Decoding). is_accepted d.outcome) b))
