-- Bytes that are made as they print one after the other, in place. Assumes nothing.
use Prim.Native.Nat.{ℕ, suc, ◌+◌, ◌≤◌, ◌<◌}
use mathlib.Core.Path.{◌≡◌, refl, sym, ap, ◌∙◌}
use mathlib.Core.List.{List, [], ◌∷◌, ◌++◌, map-append, append-nil}
use native.Mathlib.Numerals.{add-one}
use native.Mathlib.Omega.{arith}
use lib.ListN.{length, take, drop, get_or, set, length-map}
use lib.Seq.{length-take-le, length_front, take-length, take-suc, drop-cons, drop-length, append_snoc, get_or-append_seam, set-append_seam}
use Rattle.listing.specs.Lines.{shown_byte, shown}

-- the first i of them are
pub record Showing (old : List ℕ) (i : ℕ) (bytes : List ℕ) : Type 0 where
  pub most : i ≤ length old
  pub is : bytes ≡ shown (take i old) ++ drop i old

pub showing_none : (old : List ℕ) → Showing old 0 old
showing_none old = record { most = omega arith; is = refl }

pub showing_long : {old bytes : List ℕ} {i : ℕ} → Showing old i bytes → length bytes ≡ length old
showing_long {old} {bytes} {i} s = ap length s.is ∙ length_front old (shown (take i old)) i (length-map (take i old) shown_byte)

-- the place of the next of them
module _ {old bytes : List ℕ} {i : ℕ} (s : Showing old i bytes) (less : i < length old) where
  at_seam : i ≡ length (shown (take i old))
  at_seam = sym (length-map (take i old) shown_byte ∙ length-take-le i old s.most)

  split : bytes ≡ shown (take i old) ++ get_or old i 0 ∷ drop (suc i) old
  split = s.is ∙ ap (λ (r : List ℕ). shown (take i old) ++ r) (drop-cons old i 0 less)

  pub showing_at : get_or bytes i 0 ≡ get_or old i 0
  showing_at = (λ j. get_or (split j) (at_seam j) 0) ∙ get_or-append_seam (shown (take i old)) (get_or old i 0) (drop (suc i) old) 0

  pub showing_more : {byte : ℕ} → byte ≡ shown_byte (get_or bytes i 0) → Showing old (i + 1) (set bytes i byte)
  showing_more {byte} e =
      let x = get_or old i 0 in
      let rest = drop (suc i) old in
      let shows : byte ≡ shown_byte x = e ∙ ap shown_byte showing_at in
      let after : set bytes i byte ≡ shown (take i old) ++ byte ∷ rest = (λ j. set (split j) (at_seam j) byte) ∙ set-append_seam (shown (take i old)) x rest byte in
      let front : shown (take (suc i) old) ≡ shown (take i old) ++ (shown_byte x ∷ []) = ap shown (take-suc old i 0 less) ∙ map-append shown_byte (take i old) (x ∷ []) in
      let joined : shown (take (suc i) old) ++ rest ≡ shown (take i old) ++ shown_byte x ∷ rest = ap (λ (l : List ℕ). l ++ rest) front ∙ append_snoc (shown (take i old)) (shown_byte x) rest in
      record {
        most = omega arith;
        is = after ∙ ap (λ (b : ℕ). shown (take i old) ++ b ∷ rest) shows ∙ sym joined ∙ ap (λ (k : ℕ). shown (take k old) ++ drop k old) (sym (add-one i));
      }

pub showing_all : {old bytes : List ℕ} {i : ℕ} → Showing old i bytes → length old ≤ i → bytes ≡ shown old
showing_all {old} {bytes} {i} s end =
    let all : i ≡ length old = omega (arith, s.most) in
    s.is ∙ (λ j. shown (take (all j) old) ++ drop (all j) old) ∙ (λ j. shown (take-length old j) ++ drop-length old j) ∙ append-nil (shown old)
