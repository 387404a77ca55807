-- The answers of a decoding call, test by test, and what an acceptance says.
-- Assumes nothing.
use mathlib.Core.Path.{◌≡◌, refl, sym, ap, ◌∙◌}
use mathlib.Core.Bool.{Bool, true, false, false≢true}
use mathlib.Core.List.{List, [], ◌∷◌, ◌++◌}
use mathlib.Core.Logic.{◌⊎◌, inl, inr}
use Prim.Native.Nat.{ℕ, ◌+◌, ◌*◌, ◌-◌, ◌/◌, ◌%◌, ◌^◌, ◌<◌, ◌≤◌}
use native.Mathlib.Nat.{div-eq_of_lt, le-div_iff_mul-le}
use native.Mathlib.Omega.{arith}
use lib.Dec.{leb, ltb, eqb, lit<}
use lib.ListN.{length, take, drop, get_or}
use Rattle.numbers.specs.Rows.{over}
use Rattle.numbers.specs.Choice.{pick}
use Rattle.numbers.specs.Numbers.{trailer}
use Rattle.page_rules.specs.Page.{readable, size_of, checksum_right, unused_clear, decode_outcome, decoded, elements, most_elements, OutcomeTells, accept, refuse, unless, asked, RefusedBy, DecodeNumbers}
use Rattle.outcome.specs.Outcome.{Outcome, is_accepted, RefusalTells}
use Rattle.outcome.proofs.Outcomes.{refusal_tells}
use Rattle.coding.proofs.Plain.{little_single}
use lib.Pow.{pow_pos}
use borrow.Author.Tests.{leb-true, eqb-true, le-leb, lt-leb, eq-eqb, ne_eqb}
use Rattle.std.specs.Prelude.{Ok, Err}

pub outcome_tells : OutcomeTells
unfolding OutcomeTells RefusalTells
outcome_tells (Ok m) (Ok k) e = ap Ok (ap (λ (o : Outcome). get_or o.counts 0 0) e)
outcome_tells (Ok m) (Err k) e = absurd (refusal_tells 4 k 1 (m ∷ []) (lit< tt) (sym e))
outcome_tells (Err m) (Ok k) e = absurd (refusal_tells 4 m 1 (k ∷ []) (lit< tt) e)
outcome_tells (Err m) (Err k) e = ap Err (ap (λ (o : Outcome). o.number) e)

-- one test more, one number more

pub unless_by : (good : Bool) (k : ℕ) (ks : List ℕ) (a rest : Outcome) → (rest ≡ a) ⊎ RefusedBy ks rest → (unless good k rest ≡ a) ⊎ RefusedBy (k ∷ ks) (unless good k rest)
unless_by true k ks a rest (inl e) = inl e
unless_by true k ks a rest (inr r) = inr (inr r)
unless_by false k ks a rest s = inr (inl refl)

pub asked_by : (t n : ℕ) (ks : List ℕ) (a rest : Outcome) → (rest ≡ a) ⊎ RefusedBy ks rest → (asked t n rest ≡ a) ⊎ RefusedBy (23 ∷ 10 ∷ ks) (asked t n rest)
asked_by t n ks a rest s = unless_by (readable t) 23 (10 ∷ ks) a _ (unless_by (leb n most_elements) 10 ks a rest s)

pub decode_numbers : DecodeNumbers
unfolding DecodeNumbers decode_outcome
decode_numbers t n checksum page words start =
    asked_by t n (21 ∷ 22 ∷ 24 ∷ 20 ∷ []) (accept n) _
    (unless_by (eqb (length page) (size_of t n + trailer checksum)) 21 (22 ∷ 24 ∷ 20 ∷ []) (accept n) _
    (unless_by (checksum_right checksum (size_of t n) page) 22 (24 ∷ 20 ∷ []) (accept n) _
    (unless_by (unused_clear t n page) 24 (20 ∷ []) (accept n) _
    (unless_by (leb (start + n) words) 20 [] (accept n) (accept n) (inl refl)))))

-- the first tests, whatever comes after them

module _ (t n : ℕ) (rest : Outcome) where
  pub asked_23 : readable t ≡ false → refuse 23 ≡ asked t n rest
  asked_23 r = simp r

  pub asked_10 : readable t ≡ true → most_elements < n → refuse 10 ≡ asked t n rest
  asked_10 r h = simp (r, lt-leb n most_elements h)

  pub asked_passed : readable t ≡ true → n ≤ most_elements → rest ≡ asked t n rest
  asked_passed r h = simp (r, le-leb n most_elements h)

-- the tests of a decoding call that have passed

pub record Sized (t n : ℕ) (checksum : Bool) (page : List ℕ) : Type 0 where
  pub is_readable_lem : readable t ≡ true
  pub few : n ≤ most_elements
  pub long : length page ≡ size_of t n + trailer checksum

module _ (t n : ℕ) (checksum : Bool) (page : List ℕ) (words start : ℕ) where
  abbrev answer : Outcome
  answer = decode_outcome t n checksum page words start

  pub refused_23 : readable t ≡ false → refuse 23 ≡ answer
  unfolding decode_outcome
  refused_23 r = asked_23 t n _ r

  pub refused_10 : readable t ≡ true → most_elements < n → refuse 10 ≡ answer
  unfolding decode_outcome
  refused_10 r h = asked_10 t n _ r h

  pub refused_21 : readable t ≡ true → n ≤ most_elements → (length page ≡ size_of t n + trailer checksum → ⊥) → refuse 21 ≡ answer
  unfolding decode_outcome
  refused_21 r h l = simp (r, le-leb n most_elements h, ne_eqb (length page) (size_of t n + trailer checksum) l)

  module _ (s : Sized t n checksum page) where
    pub refused_22 : checksum_right checksum (size_of t n) page ≡ false → refuse 22 ≡ answer
    unfolding decode_outcome
    refused_22 c = simp (s.is_readable_lem, le-leb n most_elements s.few, eq-eqb (length page) (size_of t n + trailer checksum) s.long, c)

    pub refused_24 : checksum_right checksum (size_of t n) page ≡ true → unused_clear t n page ≡ false → refuse 24 ≡ answer
    unfolding decode_outcome
    refused_24 c u = simp (s.is_readable_lem, le-leb n most_elements s.few, eq-eqb (length page) (size_of t n + trailer checksum) s.long, c, u)

    pub refused_20 : checksum_right checksum (size_of t n) page ≡ true → unused_clear t n page ≡ true → leb (start + n) words ≡ false → refuse 20 ≡ answer
    unfolding decode_outcome
    refused_20 c u r = simp (s.is_readable_lem, le-leb n most_elements s.few, eq-eqb (length page) (size_of t n + trailer checksum) s.long, c, u, r)

    pub accepted : checksum_right checksum (size_of t n) page ≡ true → unused_clear t n page ≡ true → leb (start + n) words ≡ true → accept n ≡ answer
    unfolding decode_outcome
    accepted c u r = simp (s.is_readable_lem, le-leb n most_elements s.few, eq-eqb (length page) (size_of t n + trailer checksum) s.long, c, u, r)

-- an acceptance comes from all tests

pub record Decodes (t n : ℕ) (checksum : Bool) (page : List ℕ) (words start : ℕ) : Type 0 where
  pub sized : Sized t n checksum page
  pub right : checksum_right checksum (size_of t n) page ≡ true
  pub clear : unused_clear t n page ≡ true
  pub room : start + n ≤ words

-- an acceptance whose last case refuses: its test held
pub taken : (b : Bool) (x : Outcome) (k : ℕ) → is_accepted (unless b k x) ≡ true → (b ≡ true) × (is_accepted x ≡ true)
taken true x k e = (refl, e)
taken false x k e = absurd (false≢true e)

pub decodes : (t n : ℕ) (checksum : Bool) (page : List ℕ) (words start : ℕ) → is_accepted (decode_outcome t n checksum page words start) ≡ true → Decodes t n checksum page words start
unfolding decode_outcome
decodes t n checksum page words start e =
    let a = taken (readable t) _ 23 e in
    let b = taken (leb n most_elements) _ 10 a.1 in
    let c = taken (eqb (length page) (size_of t n + trailer checksum)) _ 21 b.1 in
    let d = taken (checksum_right checksum (size_of t n) page) _ 22 c.1 in
    let f = taken (unused_clear t n page) _ 24 d.1 in
    let g = taken (leb (start + n) words) _ 20 f.1 in
    record {
      sized = record { is_readable_lem = a.0; few = leb-true n most_elements b.0; long = eqb-true (length page) (size_of t n + trailer checksum) c.0 };
      right = d.0;
      clear = f.0;
      room = leb-true (start + n) words g.0;
    }

-- leaves

pub room_there : (words start n : ℕ) → n ≤ words → leb start (words - n) ≡ leb (start + n) words
room_there words start n h = go (leb start (words - n)) refl
  where
    go : (b : Bool) → leb start (words - n) ≡ b → leb start (words - n) ≡ leb (start + n) words
    go true e =
        let l = leb-true start (words - n) e in
        e ∙ sym (le-leb (start + n) words (omega arith))
    go false e =
        let l = borrow.Author.Tests.leb-false start (words - n) e in
        e ∙ sym (lt-leb (start + n) words (omega arith))

-- a byte with no bits from r on
pub no_bits_above : (b r : ℕ) → eqb (b / 2 ^ r) 0 ≡ ltb b (2 ^ r)
no_bits_above b r = go (ltb b (2 ^ r)) refl
  where
    go : (t : Bool) → ltb b (2 ^ r) ≡ t → eqb (b / 2 ^ r) 0 ≡ ltb b (2 ^ r)
    go true e = eq-eqb (b / 2 ^ r) 0 (div-eq_of_lt (borrow.Author.Tests.ltb-true b (2 ^ r) e)) ∙ sym e
    go false e =
        let l : 1 * 2 ^ r ≤ b = rw (native.Mathlib.Nat.one-mul (2 ^ r)) (borrow.Author.Tests.ltb-false b (2 ^ r) e) in
        let m : 1 ≤ b / 2 ^ r = (le-div_iff_mul-le {k = 2 ^ r} {x = 1} {y = b} (pow_pos r)).1 l in
        ne_eqb (b / 2 ^ r) 0 (λ z. omega arith) ∙ sym e

pub clear_other : (t n : ℕ) (bs : List ℕ) → (t ≡ 6 → ⊥) → true ≡ unused_clear t n bs
unfolding unused_clear
clear_other t n bs h = simp (ne_eqb t 6 h)

pub clear_whole : (t n : ℕ) (bs : List ℕ) → t ≡ 6 → n % 8 ≡ 0 → true ≡ unused_clear t n bs
unfolding unused_clear
clear_whole t n bs h e = simp (eq-eqb t 6 h, eq-eqb (n % 8) 0 e)

pub clear_byte : (t n : ℕ) (bs : List ℕ) → t ≡ 6 → (n % 8 ≡ 0 → ⊥) → ltb (get_or bs (n / 8) 0) (2 ^ (n % 8)) ≡ unused_clear t n bs
unfolding unused_clear
clear_byte t n bs h e = simp (eq-eqb t 6 h, ne_eqb (n % 8) 0 e) (ap (λ (b : ℕ). ltb b (2 ^ (n % 8))) (little_single (n / 8) bs))

-- the lent words afterwards

pub decoded_accepted : (t n : ℕ) (checksum : Bool) (page old : List ℕ) (start : ℕ) → is_accepted (decode_outcome t n checksum page (length old) start) ≡ true
    → take start old ++ over (elements t n page) (drop start old) ≡ decoded t n checksum page old start
unfolding decoded
decoded_accepted t n checksum page old start e = ap (λ (b : Bool). pick b (take start old ++ over (elements t n page) (drop start old)) old) (sym e)

pub decoded_refused : (t n : ℕ) (checksum : Bool) (page old : List ℕ) (start : ℕ) → is_accepted (decode_outcome t n checksum page (length old) start) ≡ false
    → old ≡ decoded t n checksum page old start
unfolding decoded
decoded_refused t n checksum page old start e = ap (λ (b : Bool). pick b (take start old ++ over (elements t n page) (drop start old)) old) (sym e)
