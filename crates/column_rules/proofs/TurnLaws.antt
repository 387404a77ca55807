-- One page of a column, test by test, and the pages in turn.
-- Assumes nothing.
use Prim.Native.Nat.{ℕ, suc, ◌+◌, ◌≤◌}
use mathlib.Core.Path.{◌≡◌, refl, sym, ap, ◌∙◌}
use mathlib.Core.Bool.{Bool, true, false}
use mathlib.Core.List.{List, [], ◌∷◌, ◌++◌, append_assoc}
use mathlib.Core.Logic.{◌⊎◌, inl, inr}
use native.Mathlib.Omega.{arith}
use lib.Dec.{leb}
use lib.ListN.{length, take, drop, length-append}
use lib.Seq.{take_at, drop_at, drop-drop, length-take-le}
use Rattle.numbers.specs.Rows.{over}
use Rattle.numbers.proofs.Choice.{clash}
use Rattle.outcome.specs.Outcome.{Outcome, is_accepted, code_of}
use Rattle.page_rules.specs.Page.{accept, refuse, unless, asked, readable, most_elements, RefusedBy, DecodeNumbers, decode_outcome, decoded, elements}
use Rattle.page_rules.proofs.Laid.{length_elements}
use Rattle.page_rules.proofs.Decoding.{asked_23, asked_by, taken, decodes, decode_numbers, decoded_accepted, decoded_refused}
use Rattle.column_rules.specs.declared.ColumnPage.{ColumnPage}
use Rattle.column_rules.specs.Column.{refuse_at, inside, page_bytes, page_outcome, page_decoded, in_turn}
use Rattle.column_rules.specs.Statements.{in_column, page_elements}

-- a refusal by one of some numbers is the refusal by its own number
pub by_number : (ks : List ℕ) (o : Outcome) → RefusedBy ks o → o ≡ refuse o.number
by_number [] o x' = elim x' [ ]
by_number (k ∷ ks) o (inl e) = e ∙ ap (λ (x : Outcome). refuse x.number) (sym e)
by_number (k ∷ ks) o (inr r) = by_number ks o r

-- A page that is accepted: it answers the elements of its row, its bytes are in the file part, the single call accepts them, and that many
-- elements stand in the words from `start` on.
pub record Taken (t : ℕ) (file : List ℕ) (p : ColumnPage) (old : List ℕ) (start : ℕ) : Type 0 where
  pub answers : page_outcome t file p (length old) start ≡ accept p.elements
  pub is_inside : inside file p ≡ true
  pub is_as_single : is_accepted (decode_outcome t p.elements p.checksum (page_bytes file p) (length old) start) ≡ true
  pub room : start + p.elements ≤ length old
  pub leaves : page_decoded t file p old start ≡ take start old ++ over (page_elements t file p) (drop start old)
  pub count : length (page_elements t file p) ≡ p.elements

-- one page

module _ (t : ℕ) (file : List ℕ) (p : ColumnPage) (old : List ℕ) (start : ℕ) where
  abbrev n : ℕ
  n = p.elements

  abbrev single : Outcome
  single = decode_outcome t p.elements p.checksum (page_bytes file p) (length old) start

  abbrev answer : Outcome
  answer = page_outcome t file p (length old) start

  abbrev left : List ℕ
  left = page_decoded t file p old start

  -- inside the file part a page is as the single call has it: its first tests, asked twice, answer the same
  pub is_single : inside file p ≡ true → (answer ≡ single) × (left ≡ decoded t n p.checksum (page_bytes file p) old start)
  unfolding page_outcome page_decoded decode_outcome
  is_single h = (rw h (twice (readable t) (leb n most_elements) _), rw h)
    where
      twice : (a b : Bool) (x : Outcome) → unless a 23 (unless b 10 (unless a 23 (unless b 10 x))) ≡ unless a 23 (unless b 10 x)
      twice true true x = refl
      twice true false x = refl
      twice false b x = refl

  -- outside it there is no single call
  pub is_outside : inside file p ≡ false → (answer ≡ asked t n (refuse 18)) × (left ≡ old)
  unfolding page_outcome page_decoded
  is_outside h = (rw h, rw h)

  -- the first test, whatever the bytes
  pub refused_23 : readable t ≡ false → refuse 23 ≡ answer
  unfolding page_outcome
  refused_23 r = asked_23 t n _ r

  -- a page accepts as many elements as its row has, or is refused by a number of its own
  pub page_numbers : (answer ≡ accept n) ⊎ RefusedBy in_column answer
  unfolding DecodeNumbers
  page_numbers = by (inside file p) refl
    where
      within : (o : Outcome) → (o ≡ accept n) ⊎ RefusedBy (23 ∷ 10 ∷ 21 ∷ 22 ∷ 24 ∷ 20 ∷ []) o → (o ≡ accept n) ⊎ RefusedBy in_column o
      within o (inl e) = inl e
      within o (inr (inl e)) = inr (inl e)
      within o (inr (inr (inl e))) = inr (inr (inl e))
      within o (inr (inr (inr r))) = inr (inr (inr (inr r)))

      by : (b : Bool) → inside file p ≡ b → (answer ≡ accept n) ⊎ RefusedBy in_column answer
      by true h =
          rw (is_single h).0 (within single (decode_numbers t n p.checksum (page_bytes file p) (length old) start))
      by false h = rw (is_outside h).0 (asked_by t n (18 ∷ 21 ∷ 22 ∷ 24 ∷ 20 ∷ []) (accept n) (refuse 18) (inr (inl refl)))

  accepted_is : is_accepted answer ≡ true → answer ≡ accept n
  accepted_is e = by page_numbers
    where
      by : (answer ≡ accept n) ⊎ RefusedBy in_column answer → answer ≡ accept n
      by (inl a) = a
      by (inr r) = clash e (ap is_accepted (by_number in_column answer r))

  pub refused_is : is_accepted answer ≡ false → RefusedBy in_column answer
  refused_is e = by page_numbers
    where
      by : (answer ≡ accept n) ⊎ RefusedBy in_column answer → RefusedBy in_column answer
      by (inl a) = clash (ap is_accepted a) e
      by (inr r) = r

  pub page_accepted : is_accepted answer ≡ true → Taken t file p old start
  page_accepted e = by (inside file p) refl
    where
      none : {A : Type 0} → is_accepted (asked t n (refuse 18)) ≡ true → A
      none a = clash (taken (leb n most_elements) (refuse 18) 10 (taken (readable t) _ 23 a).1).1 refl

      by : (b : Bool) → inside file p ≡ b → Taken t file p old start
      by true h =
          let s = is_single h in
          let a : is_accepted single ≡ true = ap is_accepted (sym s.0) ∙ e in
          let d = decodes t n p.checksum (page_bytes file p) (length old) start a in
          let long = d.sized.long in
          record {
            answers = accepted_is e;
            is_inside = h;
            is_as_single = a;
            room = d.room;
            leaves = s.1 ∙ sym (decoded_accepted t n p.checksum (page_bytes file p) old start a);
            count = length_elements t n (page_bytes file p) d.sized.is_readable_lem (omega arith);
          }
      by false h = none (ap is_accepted (sym (is_outside h).0) ∙ e)

  -- a page that is refused leaves the words
  pub page_refused : is_accepted answer ≡ false → left ≡ old
  page_refused e = by (inside file p) refl
    where
      by : (b : Bool) → inside file p ≡ b → left ≡ old
      by true h = let s = is_single h in s.1 ∙ sym (decoded_refused t n p.checksum (page_bytes file p) old start (ap is_accepted (sym s.0) ∙ e))
      by false h = (is_outside h).1

  -- the one number of its answer
  pub accepted_code : is_accepted answer ≡ true → code_of answer ≡ 0
  accepted_code e = ap code_of (accepted_is e)

  pub refused_code : (i : ℕ) → is_accepted answer ≡ false → code_of answer ≡ code_of (refuse_at answer.number i)
  refused_code i e = ap code_of (by_number in_column answer (refused_is e))

  -- the pages from this one on

  module _ (ps : List ColumnPage) (i : ℕ) where
    pub turn_accepted : is_accepted answer ≡ true → in_turn t file (p ∷ ps) i start old ≡ in_turn t file ps (suc i) (start + n) left
    unfolding in_turn
    turn_accepted e = rw e

    pub turn_refused : is_accepted answer ≡ false → in_turn t file (p ∷ ps) i start old ≡ record { outcome = refuse_at answer.number i; words = old }
    unfolding in_turn
    turn_refused e = rw e (ap (λ (words : List ℕ). record { outcome = refuse_at answer.number i; words = words }) (page_refused e))

-- words written from a place on, and others from where they end on, are both written from that place on
pub one_after_other : (old xs ys : List ℕ) (start n : ℕ) → length xs ≡ n → start + n ≤ length old
    → let left : List ℕ = take start old ++ over xs (drop start old) in
    take (start + n) left ++ over ys (drop (start + n) left) ≡ take start old ++ over (xs ++ ys) (drop start old)
one_after_other old xs ys start n many h =
    let front : List ℕ = take start old in
    let rest : List ℕ = drop (length xs) (drop start old) in
    let size : length (front ++ xs) ≡ start + n = length-append front xs ∙ (let f = length-take-le start old (omega arith) in omega arith) in
    let joined : front ++ (xs ++ rest) ≡ (front ++ xs) ++ rest = sym (append_assoc front xs rest) in
    rw (joined, take_at (front ++ xs) rest (start + n) size, drop_at (front ++ xs) rest (start + n) size, length-append xs ys)
    (rw (drop-drop (length ys) (length xs) (drop start old)) (simp append_assoc))
