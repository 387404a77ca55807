-- Digits read one after the other. Assumes nothing.
use Prim.Native.Nat.{ℕ, ◌+◌, ◌*◌, ◌-◌, ◌^◌, ◌≤◌, ◌<◌}
use mathlib.Core.Path.{◌≡◌, refl, sym, ap, ◌∙◌}
use mathlib.Core.List.{List, [], ◌∷◌}
use native.Mathlib.Numerals.{add-one}
use native.Mathlib.Omega.{arith}
use borrow.Author.Tests.{le-leb, lt-leb, lt-ltb, le-ltb}
use lib.ListN.{length, drop, get_or}
use lib.Seq.{drop-cons, drop-length}
use Rattle.std.specs.Prelude.{Option, Some, None}
use Rattle.figure_table.specs.Numeral.{with_digit, with_digits, numeral}

-- one digit more, by what was tested

pub no_digit_low : (n byte : ℕ) → byte < 48 → None ≡ with_digit (Some n) byte
unfolding with_digit
no_digit_low n byte l = rw (lt-leb 48 byte l)

pub no_digit_high : (n byte : ℕ) → 57 < byte → None ≡ with_digit (Some n) byte
unfolding with_digit
no_digit_high n byte l = rw (le-leb 48 byte (omega arith), lt-leb byte 57 l)

pub digit_passes : (n byte : ℕ) → 48 ≤ byte → byte ≤ 57 → 2 ^ 64 ≤ 10 * n + (byte - 48) → None ≡ with_digit (Some n) byte
unfolding with_digit
digit_passes n byte low high l = rw (le-leb 48 byte low, le-leb byte 57 high, le-ltb (10 * n + (byte - 48)) (2 ^ 64) l)

pub digit_fits : (n byte : ℕ) → 48 ≤ byte → byte ≤ 57 → 10 * n + (byte - 48) < 2 ^ 64 → Some (10 * n + (byte - 48)) ≡ with_digit (Some n) byte
unfolding with_digit
digit_fits n byte low high l = rw (le-leb 48 byte low, le-leb byte 57 high, lt-ltb (10 * n + (byte - 48)) (2 ^ 64) l)

-- what is no number stays none
none_stays : (rest : List ℕ) → with_digits None rest ≡ None
unfolding with_digit with_digits
none_stays [] = refl
none_stays (byte ∷ rest) = none_stays rest

-- the number n was read, and the rest of the text decides
pub record Reading (text : List ℕ) (n i : ℕ) : Type 0 where
  pub most : i ≤ length text
  pub is : numeral text ≡ with_digits (Some n) (drop i text)

pub numeral_none : (text : List ℕ) → length text ≤ 0 → None ≡ numeral text
unfolding numeral
numeral_none [] l = refl
numeral_none (byte ∷ rest) l = absurd (omega arith)

pub reading_start : (text : List ℕ) → 1 ≤ length text → Reading text 0 0
unfolding numeral
reading_start [] l = absurd (omega arith)
reading_start (byte ∷ rest) l = record { most = omega arith; is = refl }

turn : {text : List ℕ} {n i : ℕ} {x : Option ℕ} → Reading text n i → i < length text → x ≡ with_digit (Some n) (get_or text i 0) → numeral text ≡ with_digits x (drop (i + 1) text)
unfolding with_digits
turn {text} {n} {i} r l e = r.is ∙ ap (with_digits (Some n)) (drop-cons text i 0 l) ∙ (λ j. with_digits (sym e j) (drop (sym (add-one i) j) text))

pub reading_more : {text : List ℕ} {n i m : ℕ} {x : Option ℕ} → Reading text n i → i < length text → x ≡ with_digit (Some n) (get_or text i 0) → x ≡ Some m → Reading text m (i + 1)
reading_more {text} {n} {i} r l e is = record { most = omega arith; is = turn r l (sym is ∙ e) }

pub reading_none : {text : List ℕ} {n i : ℕ} {x : Option ℕ} → Reading text n i → i < length text → x ≡ with_digit (Some n) (get_or text i 0) → x ≡ None → None ≡ numeral text
reading_none {text} {n} {i} r l e is = sym (turn r l (sym is ∙ e) ∙ none_stays (drop (i + 1) text))

pub reading_end : {text : List ℕ} {n i : ℕ} → Reading text n i → length text ≤ i → Some n ≡ numeral text
unfolding with_digits
reading_end {text} {n} {i} r l =
    let all : i ≡ length text = omega (arith, r.most) in
    sym (r.is ∙ (λ j. with_digits (Some n) (drop (all j) text)) ∙ ap (with_digits (Some n)) (drop-length text))
