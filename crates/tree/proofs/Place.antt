-- Bytes at a place: what stands in two parts, and numbers spelled there.
use Prim.Native.Nat.{ℕ, zero, suc, ◌+◌, ◌*◌, ◌/◌, ◌%◌, ◌^◌, ◌≤◌, ◌<◌}
use mathlib.Core.List.{List, [], ◌∷◌, ◌++◌, append_assoc}
use mathlib.Core.Bool.{Bool, true, false}
use lib.Dec.{ltb}
use borrow.Author.Tests.{ltb-true}
use Rattle.numbers.specs.Choice.{both}
use mathlib.Core.Path.{◌≡◌, refl, sym, ap, ◌∙◌}
use native.Mathlib.Omega.{arith}
use native.Mathlib.Nat.{add-zero}
use lib.ListN.{length, get_or, take, drop, take-append-drop}
use lib.Seq.{drop-drop, drop-append_seam, take-append_seam, get_or-drop, drop-cons, length-take-le, get_or-take, take-take}
use Rattle.numbers.specs.Numbers.{little}
use Rattle.records.proofs.Bounds.{little_below}
use Rattle.tree.specs.Bytes.{spelled, Stands, Bytes}

pub length_spelled : (k n : ℕ) → length (spelled k n) ≡ k
unfolding spelled
length_spelled zero n = refl
length_spelled (suc k) n = ap suc (length_spelled k (n / 256))

pub stands_left : {s : List ℕ} {p : ℕ} (a b : List ℕ) → Stands s p (a ++ b) → Stands s p a
stands_left a b h = record { rest = b ++ h.rest; at = h.at ∙ append_assoc a b h.rest }

pub stands_right : {s : List ℕ} {p : ℕ} (a b : List ℕ) → Stands s p (a ++ b) → Stands s (p + length a) b
stands_right {s} {p} a b h =
    record {
      rest = h.rest;
      at = sym (drop-drop (length a) p s) ∙ ap (drop (length a)) (h.at ∙ append_assoc a b h.rest) ∙ drop-append_seam a (b ++ h.rest);
    }

pub stands_join : {s : List ℕ} {p : ℕ} (a b : List ℕ) → Stands s p a → Stands s (p + length a) b → Stands s p (a ++ b)
stands_join {s} {p} a b h k =
    record {
      rest = k.rest;
      at = h.at ∙ ap (λ (l : List ℕ). a ++ l) (sym (drop-append_seam a h.rest) ∙ sym (ap (drop (length a)) h.at) ∙ drop-drop (length a) p s ∙ k.at) ∙ sym (append_assoc a b k.rest);
    }

pub stands_none : (s : List ℕ) (p : ℕ) → Stands s p []
stands_none s p = record { rest = drop p s; at = refl }

-- what stands at a place, as a part of s
pub stands_part : (s : List ℕ) (p n : ℕ) → Stands s p (take n (drop p s))
stands_part s p n = record { rest = drop n (drop p s); at = sym (take-append-drop n (drop p s)) }

pub part_stands : {s : List ℕ} {p : ℕ} {bs : List ℕ} → Stands s p bs → take (length bs) (drop p s) ≡ bs
part_stands {s} {p} {bs} h = ap (take (length bs)) h.at ∙ take-append_seam bs h.rest

pub bytes_at : (s : List ℕ) (p : ℕ) → Bytes s → get_or s p 0 < 256
bytes_at [] p b = omega arith
bytes_at (x ∷ s) zero b = b.0
bytes_at (x ∷ s) (suc p) b = bytes_at s p b.1

-- a number that is spelled at a place is read there
pub little_spelled : (k n : ℕ) {s : List ℕ} {p : ℕ} → n < 256 ^ k → Stands s p (spelled k n) → little k s p ≡ n
unfolding spelled little
little_spelled zero n h st = omega arith
little_spelled (suc k) n {s} {p} h st =
    let first : get_or s p 0 ≡ n % 256 = sym (ap (λ (q : ℕ). get_or s q 0) (add-zero p)) ∙ sym (get_or-drop p s 0 0) ∙ ap (λ (l : List ℕ). get_or l 0 0) st.at in
    let later : little k s (p + 1) ≡ n / 256 = little_spelled k (n / 256) (omega arith) (stands_right (n % 256 ∷ []) _ st) in
    omega arith

pub little_bound : (k : ℕ) (s : List ℕ) (p : ℕ) → Bytes s → little k s p < 256 ^ k
little_bound k s p b = little_below k s p (λ i. bytes_at s i b)

-- the number that is read at a place is spelled there
pub spelled_little : (k : ℕ) (s : List ℕ) (p : ℕ) → Bytes s → p + k ≤ length s → Stands s p (spelled k (little k s p))
unfolding spelled little
spelled_little zero s p b h = stands_none s p
spelled_little (suc k) s p b h =
    let first = bytes_at s p b in
    let h' : p < length s = omega arith in
    let low : (get_or s p 0 + 256 * little k s (p + 1)) % 256 ≡ get_or s p 0 = omega arith in
    let high : (get_or s p 0 + 256 * little k s (p + 1)) / 256 ≡ little k s (p + 1) = omega arith in
    let one : Stands s p (get_or s p 0 ∷ []) = record { rest = drop (suc p) s; at = drop-cons s p 0 h' } in
    rw (low, high) (stands_join (get_or s p 0 ∷ []) _ one (spelled_little k s (p + 1) b (omega arith)))

-- bytes by their places, as a slice's contract has them
pub bytes_from : (s : List ℕ) → ((i : ℕ) → i < length s → get_or s i 0 < 256) → Bytes s
bytes_from [] h = tt
bytes_from (x ∷ s) h = (h 0 (omega arith), bytes_from s (λ i l. h (suc i) (omega arith)))

-- what is read in a container, the bytes of s up to its end, is what is read in s

module _ (s : List ℕ) (end : ℕ) (inside : end ≤ length s) where
  pub container_long : length (take end s) ≡ end
  container_long = length-take-le end s inside

  pub little_container : (k p : ℕ) → p + k ≤ end → little k (take end s) p ≡ little k s p
  unfolding little
  little_container zero p h = refl
  little_container (suc k) p h =
      let first : get_or (take end s) p 0 ≡ get_or s p 0 = get_or-take end s p 0 (omega arith) in
      let later : little k (take end s) (p + 1) ≡ little k s (p + 1) = little_container k (p + 1) (omega arith) in
      rw (first, later) refl

  -- a frame's container, in another's
  pub container_in : (stop : ℕ) → stop ≤ end → take stop (take end s) ≡ take stop s
  container_in stop h = take-take stop end s h

take_nil : (k : ℕ) → take {A = ℕ} k [] ≡ []
take_nil zero = refl
take_nil (suc k) = refl

pub part_in : (s : List ℕ) (end p n : ℕ) → p + n ≤ end → take n (drop p (take end s)) ≡ take n (drop p s)
part_in s end zero n h = take-take n end s (omega arith)
part_in [] end (suc p) n h = ap (λ (l : List ℕ). take n (drop (suc p) l)) (take_nil end)
part_in (x ∷ s) zero (suc p) n h = absurd (omega arith)
part_in (x ∷ s) (suc end) (suc p) n h = part_in s end p n (omega arith)

-- bytes by a test, for lists that are written out

abbrev pub all_bytes : List ℕ → Bool
all_bytes [] = true
all_bytes (b ∷ bs) = both (ltb b 256) (all_bytes bs)

pub bytes_tested : (s : List ℕ) → all_bytes s ≡ true → Bytes s
bytes_tested [] e = tt
bytes_tested (b ∷ bs) e = go (ltb b 256) refl e (bytes_tested bs)
  where
    go : (t : Bool) → ltb b 256 ≡ t → both t (all_bytes bs) ≡ true → (all_bytes bs ≡ true → Bytes bs) → (b < 256) × Bytes bs
    go true h e later = (ltb-true b 256 h, later e)
    go false h e later = let z : ◌≡◌ {A = ℕ} 0 1 = cc in absurd (omega arith)
