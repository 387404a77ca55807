-- Bytes stored one after the other.
use Prim.Native.Nat.{ℕ, zero, suc, ◌+◌, ◌/◌, ◌%◌, ◌-◌, ◌^◌, ◌≤◌, ◌<◌}
use mathlib.Core.List.{List, [], ◌∷◌, ◌++◌, append_assoc}
use mathlib.Core.Path.{◌≡◌, refl, sym, ap, ◌∙◌, subst}
use native.Mathlib.Omega.{arith}
use native.Mathlib.Nat.{add-zero, zero-add}
use native.Mathlib.Numerals.{add-one}
use lib.ListN.{length, take, drop, set, length-append}
use lib.Seq.{sets, length-sets, sets-eq, set-append_seam, length-take-le, paste, take-length}
use borrow.Rule.Slice.PartMut.{put_mid}
use Rattle.std.proofs.lemmas.Slice.{put_mid-paste}
use Rattle.numbers.specs.Rows.{over}
use Rattle.coding.specs.Strides.{puts}
use Rattle.tree.specs.Bytes.{spelled}
use Rattle.tree.specs.Shape.{record_bytes, list_bytes}
use Rattle.tree.proofs.Place.{length_spelled}
use Rattle.stores.specs.Stored.{Stored}

pub sets_then : (l : List ℕ) (i : ℕ) (a b : List ℕ) → sets l i (a ++ b) ≡ sets (sets l i a) (i + length a) b
sets_then l i [] b = ap (λ (k : ℕ). sets l k b) (sym (add-zero i))
sets_then l i (x ∷ a) b =
    let place : suc i + length a ≡ i + suc (length a) = omega arith in
    sets_then (set l i x) (suc i) a b ∙ ap (λ (k : ℕ). sets (sets (set l i x) (suc i) a) k b) place

pub stored_none : (old : List ℕ) (at : ℕ) → Stored old at [] old at
stored_none old at = record { onward = omega arith; done = λ _. (refl, sym (add-zero at)) }

pub stored_then : {a b c : List ℕ} {at m e : ℕ} {bs cs : List ℕ} → Stored a at bs b m → Stored b m cs c e → Stored a at (bs ++ cs) c e
stored_then {a} {b} {c} {at} {m} {e} {bs} {cs} one two =
    record {
      onward = omega (arith, one.onward, two.onward);
      done = λ room.
          let long = length-append bs cs in
          let (is, stop) = one.done (omega arith) in
          let same : length b ≡ length a = ap length is ∙ length-sets a at bs in
          let (is', stop') = two.done (omega arith) in
          (is' ∙ (λ i. sets (is i) (stop i) cs) ∙ sym (sets_then a at bs cs), omega arith);
    }

-- what `put_number` leaves, as a run of stores
pub puts_sets : (k x at : ℕ) (d : List ℕ) → puts k x at d ≡ sets d at (spelled k x)
unfolding puts spelled
puts_sets zero x at d = refl
puts_sets (suc k) x at d =
    puts_sets k (x / 256) (at + 1) (set d at (x % 256)) ∙ ap (λ (p : ℕ). sets (set d at (x % 256)) p (spelled k (x / 256))) (add-one at)

-- bytes that are stored from the first place on stand in front
pub stored_front : {old bytes new : List ℕ} {end : ℕ} → Stored old 0 bytes new end → length bytes ≤ length old → (new ≡ over bytes old) × (end ≡ length bytes)
stored_front {old} {bytes} s fits =
    let (is, stop) = s.done (omega arith) in
    (is ∙ sets-eq bytes old 0 (omega arith) ∙ ap (λ (k : ℕ). bytes ++ drop k old) (zero-add (length bytes)), stop ∙ zero-add (length bytes))

-- the two ends of a call that tests the room first: all is stored, or there was no room
pub stored_all : {old : List ℕ} {at : ℕ} {bytes new : List ℕ} {n : ℕ} → new ≡ sets old at bytes → n ≡ length bytes → Stored old at bytes new (at + n)
stored_all {at = at} is long = record { onward = omega arith; done = λ _. (is, ap (λ (k : ℕ). at + k) long) }

pub stored_nothing : {old : List ℕ} {at : ℕ} {bytes new : List ℕ} → length old < at + length bytes → Stored old at bytes new at
stored_nothing short = record { onward = omega arith; done = λ fits. absurd (omega arith) }

-- bytes put over others of the same number
over_seam : (p z q h : List ℕ) → length z ≡ length h → sets (p ++ (z ++ q)) (length p) h ≡ p ++ (h ++ q)
over_seam p [] q [] e = refl
over_seam p [] q (y ∷ h) e = absurd (omega arith)
over_seam p (x ∷ z) q [] e = absurd (omega arith)
over_seam p (x ∷ z) q (y ∷ h) e =
    let front : set (p ++ (x ∷ (z ++ q))) (length p) y ≡ p ++ (y ∷ (z ++ q)) = set-append_seam p x (z ++ q) y in
    let shift : (l : List ℕ) → p ++ (y ∷ l) ≡ (p ++ (y ∷ [])) ++ l = λ l. sym (append_assoc p (y ∷ []) l) in
    let long : suc (length p) ≡ length (p ++ (y ∷ [])) = omega (arith, length-append p (y ∷ [])) in
    ap (λ (l : List ℕ). sets l (suc (length p)) h) (front ∙ shift (z ++ q))
    ∙ ap (λ (k : ℕ). sets ((p ++ (y ∷ [])) ++ (z ++ q)) k h) long
    ∙ over_seam (p ++ (y ∷ [])) z q h (omega arith) ∙ sym (shift (h ++ q))

sets_over : (a : List ℕ) (at : ℕ) (z h body : List ℕ) → length z ≡ length h → at + length (z ++ body) ≤ length a
    → sets (sets a at (z ++ body)) at h ≡ sets a at (h ++ body)
sets_over a at z h body same room =
    let lz = length-append z body in
    let lh = length-append h body in
    let front : length (take at a) ≡ at = length-take-le at a (omega arith) in
    let n = at + length (z ++ body) in
    let n_is : at + length (h ++ body) ≡ n = omega arith in
    let left : sets a at (z ++ body) ≡ take at a ++ (z ++ (body ++ drop n a)) = sets-eq (z ++ body) a at room ∙ simp append_assoc in
    let right : sets a at (h ++ body) ≡ take at a ++ (h ++ (body ++ drop n a)) = sets-eq (h ++ body) a at (omega arith) ∙ ap (λ (k : ℕ). take at a ++ (h ++ body) ++ drop k a) n_is ∙ simp append_assoc in
    ap (λ (l : List ℕ). sets l at h) left ∙ ap (λ (k : ℕ). sets (take at a ++ (z ++ (body ++ drop n a))) k h) (sym front)
    ∙ over_seam (take at a) z (body ++ drop n a) h same ∙ sym right

-- a head that is stored after its body, where others bytes kept its place
pub stored_head : {a b c : List ℕ} {at m e m' : ℕ} (z body h : List ℕ) {d : List ℕ} → Stored a at z b m → Stored b m body c e → Stored c at h d m'
    → length z ≡ length h → Stored a at (h ++ body) d e
stored_head {a} {b} {c} {at} {m} {e} {m'} z body h {d} one two three same =
    let both = stored_then one two in
    record {
      onward = both.onward;
      done = λ room.
          let lz = length-append z body in
          let lh = length-append h body in
          let (is, stop) = both.done (omega arith) in
          let long : length c ≡ length a = ap length is ∙ length-sets a at (z ++ body) in
          let (is', _) = three.done (omega arith) in
          (is' ∙ ap (λ (l : List ℕ). sets l at h) is ∙ sets_over a at z h body same (omega arith), omega arith);
    }

pub stored_as_lem : {a b : List ℕ} {at e : ℕ} {bs cs : List ℕ} → bs ≡ cs → Stored a at bs b e → Stored a at cs b e
stored_as_lem {a} {b} {at} {e} same s = subst (λ (l : List ℕ). Stored a at l b e) same s

-- a copy of all bytes
pub pasted : (old : List ℕ) (at : ℕ) (bytes : List ℕ) (n : ℕ) → n ≡ length bytes → at + length bytes ≤ length old → paste old at bytes n ≡ sets old at bytes
pasted old at bytes n e room = ap (paste old at bytes) e ∙ ap (λ (l : List ℕ). take at old ++ l ++ drop (at + length bytes) old) (take-length bytes) ∙ sym (sets-eq bytes old at room)

-- a copy into the part of the lent bytes that starts there
pub stored_part : {old : List ℕ} {at n : ℕ} {bytes part : List ℕ} → part ≡ bytes → n ≡ length bytes → at + n ≤ length old → Stored old at bytes (put_mid at (at + n - at) old part) (at + n)
stored_part {old} {at} {n} {bytes} {part} same long room =
    stored_all (put_mid-paste at (at + n - at) old part bytes n same (omega arith) long ∙ pasted old at bytes n long (omega arith)) long

-- a record frame of a known size, which is stored first
pub stored_sized : {a b c : List ℕ} {at m e : ℕ} (size : ℕ) (body : List ℕ) → 4 + length body ≡ size → Stored a at (spelled 4 size) b m → Stored b m body c e
    → Stored a at (record_bytes body) c e
stored_sized size body is one two = stored_as_lem (ap (λ (k : ℕ). spelled 4 k ++ body) (sym is)) (stored_then one two)

-- a record frame whose size is stored last
pub stored_record : {a b c d : List ℕ} {at m e m' : ℕ} (body : List ℕ) → Stored a at (spelled 4 0) b m → Stored b m body c e → Stored c at (spelled 4 (e - at)) d m'
    → Stored a at (record_bytes body) d e
stored_record {a} {b} {c} {d} {at} {m} {e} {m'} body one two three =
    record {
      onward = omega (arith, one.onward, two.onward);
      done = λ room.
          let h = spelled 4 (4 + length body) in
          let long = length-append h body in
          let lh = length_spelled 4 (4 + length body) in
          let lz = length_spelled 4 0 in
          let lzb = length-append (spelled 4 0) body in
          let (_, stop) = (stored_then one two).done (omega arith) in
          let size : e - at ≡ 4 + length body = omega arith in
          let last : Stored c at h d m' = subst (λ (k : ℕ). Stored c at (spelled 4 k) d m') size three in
          (stored_head (spelled 4 0) body h one two last (omega arith)).done room;
    }

-- a list frame whose head is stored last
pub stored_list : {a b c d : List ℕ} {at m e m' : ℕ} (n : ℕ) (body : List ℕ) → Stored a at (spelled 8 0) b m → Stored b m body c e
    → Stored c at (spelled 4 (2 ^ 32 - (e - at)) ++ spelled 4 n) d m' → Stored a at (list_bytes n body) d e
stored_list {a} {b} {c} {d} {at} {m} {e} {m'} n body one two three =
    record {
      onward = omega (arith, one.onward, two.onward);
      done = λ room.
          let w = 2 ^ 32 - (8 + length body) in
          let h = spelled 4 w ++ spelled 4 n in
          let lw = length_spelled 4 w in
          let ln = length_spelled 4 n in
          let lh = length-append (spelled 4 w) (spelled 4 n) in
          let lz = length_spelled 8 0 in
          let lzb = length-append (spelled 8 0) body in
          let same : h ++ body ≡ list_bytes n body = append_assoc (spelled 4 w) (spelled 4 n) body in
          let lhb : length (h ++ body) ≡ length (list_bytes n body) = ap length same in
          let lhb' = length-append h body in
          let (_, stop) = (stored_then one two).done (omega arith) in
          let size : e - at ≡ 8 + length body = omega arith in
          let last : Stored c at h d m' = subst (λ (k : ℕ). Stored c at (spelled 4 (2 ^ 32 - k) ++ spelled 4 n) d m') size three in
          (stored_as_lem same (stored_head (spelled 8 0) body h one two last (omega arith))).done room;
    }

-- numbers one after the other have as many bytes as they say
pub numbers_long : (k n : ℕ) (rest : List ℕ) {m : ℕ} → length rest ≡ m → length (spelled k n ++ rest) ≡ k + m
numbers_long k n rest e = length-append (spelled k n) rest ∙ (λ i. length_spelled k n i + e i)
