-- The answers of an encoding call, test by test, what an acceptance says, and the bytes that are written.
-- Assumes nothing.
use mathlib.Core.Path.{◌≡◌, refl, sym, ap, ap₂, ◌∙◌}
use mathlib.Core.Bool.{Bool, true, false}
use mathlib.Core.List.{List, [], ◌∷◌, ◌++◌, append_assoc, append-nil}
use mathlib.Core.Logic.{inl}
use Prim.Native.Nat.{ℕ, ◌+◌, ◌*◌, ◌-◌, ◌/◌, ◌<◌, ◌≤◌}
use native.Mathlib.Omega.{arith}
use lib.Dec.{leb, eqb}
use lib.ListN.{length, take, drop, get_or, length-append, length-drop}
use lib.Seq.{take_at, drop_at, drop-drop}
use borrow.Author.Tests.{leb-true, le-leb, lt-leb, eq-eqb}
use Rattle.numbers.specs.Choice.{pick, both}
use Rattle.checksum.specs.Crc.{crc32}
use Rattle.column_type.specs.Types.{width_of, split, delta, zigzag}
use Rattle.coding.specs.Layout.{bytes_of, plain, planes, packed, fit, coded_by, laid_out}
use Rattle.coding.specs.Strides.{puts}
use Rattle.coding.proofs.Puts.{puts_over}
use Rattle.numbers.specs.Rows.{over}
use Rattle.numbers.specs.Numbers.{trailer}
use Rattle.page_rules.specs.Page.{readable, size_of, chosen, bytes, checked_page, encode_outcome, encoded, most_elements, accept, refuse, EncodeNumbers}
use Rattle.outcome.specs.Outcome.{Outcome, is_accepted}
use Rattle.coding.proofs.Bits.{length_packed}
use Rattle.coding.proofs.Places.{length_coded, length_laid_out}
use Rattle.page_rules.proofs.Types.{of_bytes, bit_size}
use Rattle.numbers.proofs.Choice.{both_true}
use Rattle.page_rules.proofs.Laid.{size_of_lem}
use Rattle.page_rules.proofs.Decoding.{asked_23, asked_10, taken, unless_by, asked_by}

pub record Asked (t n : ℕ) : Type 0 where
  pub is_readable_lem : readable t ≡ true
  pub few : n ≤ most_elements

module _ (t n : ℕ) (checksum : Bool) (words : List ℕ) (start room : ℕ) where
  abbrev answer : Outcome
  answer = encode_outcome t n checksum words start room

  pub refused_23 : readable t ≡ false → refuse 23 ≡ answer
  unfolding encode_outcome
  refused_23 r = asked_23 t n _ r

  pub refused_10 : readable t ≡ true → most_elements < n → refuse 10 ≡ answer
  unfolding encode_outcome
  refused_10 r h = asked_10 t n _ r h

  module _ (a : Asked t n) where
    pub refused_words : leb (start + n) (length words) ≡ false → refuse 20 ≡ answer
    unfolding encode_outcome
    refused_words w = simp (a.is_readable_lem, le-leb n most_elements a.few, w)

    pub refused_room : leb (start + n) (length words) ≡ true → room < size_of t n + trailer checksum → refuse 20 ≡ answer
    unfolding encode_outcome
    refused_room w h = simp (a.is_readable_lem, le-leb n most_elements a.few, w, lt-leb (size_of t n + trailer checksum) room h)

    pub refused_25 : leb (start + n) (length words) ≡ true → size_of t n + trailer checksum ≤ room → fit (width_of t) (chosen n words start) ≡ false → refuse 25 ≡ answer
    unfolding encode_outcome
    refused_25 w h f = simp (a.is_readable_lem, le-leb n most_elements a.few, w, le-leb (size_of t n + trailer checksum) room h, f)

    pub accepted : leb (start + n) (length words) ≡ true → size_of t n + trailer checksum ≤ room → fit (width_of t) (chosen n words start) ≡ true → accept (size_of t n + trailer checksum) ≡ answer
    unfolding encode_outcome
    accepted w h f = simp (a.is_readable_lem, le-leb n most_elements a.few, w, le-leb (size_of t n + trailer checksum) room h, f)

-- an acceptance comes from all tests

pub record Encodes (t n : ℕ) (checksum : Bool) (words : List ℕ) (start room : ℕ) : Type 0 where
  pub is_readable_lem : readable t ≡ true
  pub few : n ≤ most_elements
  pub there : start + n ≤ length words
  pub enough : size_of t n + trailer checksum ≤ room
  pub fits : fit (width_of t) (chosen n words start) ≡ true

pub encodes : (t n : ℕ) (checksum : Bool) (words : List ℕ) (start room : ℕ) → is_accepted (encode_outcome t n checksum words start room) ≡ true → Encodes t n checksum words start room
unfolding encode_outcome
encodes t n checksum words start room e =
    let w : Bool = leb (start + n) (length words) in
    let r : Bool = leb (size_of t n + trailer checksum) room in
    let a = taken (readable t) _ 23 e in
    let b = taken (leb n most_elements) _ 10 a.1 in
    let c = taken (both w r) _ 20 b.1 in
    let d = taken (fit (width_of t) (chosen n words start)) _ 25 c.1 in
    let p = both_true w r c.0 in
    record {
      is_readable_lem = a.0;
      few = leb-true n most_elements b.0;
      there = leb-true (start + n) (length words) p.0;
      enough = leb-true (size_of t n + trailer checksum) room p.1;
      fits = d.0;
    }

-- its count is the page's size
pub counted : (t n : ℕ) (checksum : Bool) (words : List ℕ) (start room m : ℕ) → encode_outcome t n checksum words start room ≡ accept m → m ≡ size_of t n + trailer checksum
counted t n checksum words start room m e =
    let p = encodes t n checksum words start room (ap is_accepted e) in
    ap (λ (o : Outcome). get_or o.counts 0 0)
    (sym e ∙ sym (accepted t n checksum words start room (record { is_readable_lem = p.is_readable_lem; few = p.few }) (le-leb (start + n) (length words) p.there) p.enough p.fits))

pub encode_numbers : EncodeNumbers
unfolding EncodeNumbers encode_outcome
encode_numbers t n checksum words start room =
    let size : ℕ = size_of t n + trailer checksum in
    asked_by t n (20 ∷ 25 ∷ []) (accept size) _
    (unless_by (both (leb (start + n) (length words)) (leb size room)) 20 (25 ∷ []) (accept size) _
    (unless_by (fit (width_of t) (chosen n words start)) 25 [] (accept size) (accept size) (inl refl)))

-- the lent bytes afterwards

pub encoded_accepted : (t n : ℕ) (checksum : Bool) (words old : List ℕ) (start : ℕ) → is_accepted (encode_outcome t n checksum words start (length old)) ≡ true
    → over (checked_page checksum (bytes t (chosen n words start))) old ≡ encoded t n checksum words start old
unfolding encoded
encoded_accepted t n checksum words old start e = ap (λ (b : Bool). pick b (over (checked_page checksum (bytes t (chosen n words start))) old) old) (sym e)

pub encoded_refused : (t n : ℕ) (checksum : Bool) (words old : List ℕ) (start : ℕ) → is_accepted (encode_outcome t n checksum words start (length old)) ≡ false
    → old ≡ encoded t n checksum words start old
unfolding encoded
encoded_refused t n checksum words old start e = ap (λ (b : Bool). pick b (over (checked_page checksum (bytes t (chosen n words start))) old) old) (sym e)

-- the bytes, by the type

pub bytes_bit : (t : ℕ) (xs : List ℕ) → t ≡ 6 → packed ((length xs + 7) / 8) xs ≡ bytes t xs
unfolding bytes
bytes_bit t xs e = simp (eq-eqb t 6 e)

pub bytes_whole : (t : ℕ) (xs : List ℕ) → eqb t 6 ≡ false → laid_out (split t) (width_of t / 8) (coded_by (delta t) (zigzag t) (width_of t) xs) ≡ bytes t xs
unfolding bytes
bytes_whole t xs b = simp b

pub bytes_split : (t : ℕ) (xs : List ℕ) → eqb t 6 ≡ false → split t ≡ true → planes (width_of t / 8) (coded_by (delta t) (zigzag t) (width_of t) xs) ≡ bytes t xs
unfolding bytes
bytes_split t xs b s = simp (b, s)

pub bytes_plain : (t : ℕ) (xs : List ℕ) → eqb t 6 ≡ false → split t ≡ false → delta t ≡ false → zigzag t ≡ false → plain (width_of t / 8) xs ≡ bytes t xs
unfolding bytes
bytes_plain t xs b s d z = simp (b, s, d, z)

pub length_bytes : (t : ℕ) (xs : List ℕ) → readable t ≡ true → length (bytes t xs) ≡ size_of t (length xs)
length_bytes t xs r = go (eqb t 6) refl
  where
    go : (b : Bool) → eqb t 6 ≡ b → length (bytes t xs) ≡ size_of t (length xs)
    go true e =
        let h = borrow.Author.Tests.eqb-true t 6 e in
        ap length (sym (bytes_bit t xs h)) ∙ length_packed ((length xs + 7) / 8) xs ∙ sym (bit_size t (length xs) h)
    go false e =
        ap length (sym (bytes_whole t xs e))
        ∙ length_laid_out (split t) (width_of t / 8) (coded_by (delta t) (zigzag t) (width_of t) xs)
        ∙ ap (λ (n : ℕ). n * (width_of t / 8)) (length_coded (delta t) (zigzag t) (width_of t) xs)
        ∙ sym (size_of_lem t (length xs) (of_bytes t r e))

-- a checksum put behind a page

pub with_checksum_lem : (bs old : List ℕ) (n : ℕ) → length bs ≡ n → n + 4 ≤ length old
    → puts 4 (crc32 (take n (over bs old))) n (over bs old) ≡ over (checked_page true bs) old
unfolding checked_page
with_checksum_lem bs old n e h =
    let rest : List ℕ = drop (length bs) old in
    let c : List ℕ = bytes_of 4 (crc32 bs) in
    let t : take n (over bs old) ≡ bs = take_at bs rest n e in
    let d : drop n (over bs old) ≡ rest = drop_at bs rest n e in
    let l : length (over bs old) ≡ length old = length-append bs rest ∙ (let r = length-drop (length bs) old in omega arith) in
    puts_over 4 (crc32 (take n (over bs old))) n (over bs old) (omega arith)
    ∙ ap₂ (λ (u v : List ℕ). u ++ over (bytes_of 4 (crc32 u)) v) t d
    ∙ sym (append_assoc bs c (drop (length c) rest))
    ∙ ap (λ (v : List ℕ). (bs ++ c) ++ v) (drop-drop (length c) (length bs) old ∙ ap (λ (m : ℕ). drop m old) (sym (length-append bs c)))

pub without_checksum : (bs old : List ℕ) → over bs old ≡ over (checked_page false bs) old
unfolding checked_page
without_checksum bs old = ap (λ (l : List ℕ). over l old) (sym (append-nil bs))

-- a part of n elements from a place on
pub part_is : (n start : ℕ) (words : List ℕ) → take (start + n - start) (drop start words) ≡ chosen n words start
part_is n start words =
    let e : start + n - start ≡ n = omega arith in
    ap (λ (m : ℕ). take m (drop start words)) e
