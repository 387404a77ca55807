-- The law of envelopes: those that are accepted are the renderings of right trees.
use Prim.Native.Nat.{ℕ, ◌+◌, ◌-◌, ◌^◌, ◌≤◌, ◌<◌}
use mathlib.Core.List.{List, [], ◌∷◌, ◌++◌, append-nil}
use mathlib.Core.Bool.{true}
use mathlib.Core.Path.{◌≡◌, refl, sym, ap, ◌∙◌, subst, subst₂}
use native.Mathlib.Omega.{arith}
use lib.Dec.{leb, eqb}
use borrow.Author.Tests.{leb-true, eqb-true, le-leb, eq-eqb}
use lib.ListN.{length, take, drop, length-append, length-drop, take-append-drop}
use lib.Seq.{take-append_seam}
use Rattle.numbers.specs.Choice.{both}
use Rattle.numbers.specs.Numbers.{little}
use Rattle.checksum.specs.Crc.{crc32}
use Rattle.wire.specs.Reading.{Step, found, refused, Rule}
use Rattle.wire.proofs.Laws.{never, pick_found}
use Rattle.frames.specs.Frames.{closed}
use Rattle.envelope.specs.Envelope.{Versions, versions_of, versioned, version_of, opened, enclosed, ceiling, strict_of, checksum_of}
use Rattle.tree.specs.Bytes.{spelled, Stands, Bytes}
use Rattle.tree.specs.Shape.{Carrier, Shape, Read, Written, Law}
use Rattle.tree.specs.EnvelopeTree.{Enveloped, unsummed, sealed, render_envelope, Right}
use Rattle.tree.proofs.Place.{length_spelled, stands_left, stands_right, stands_join, part_stands, little_spelled, little_bound, spelled_little, container_long}
use Rattle.numbers.proofs.Choice.{both_true}
use Rattle.tree.proofs.Frames.{closed_complete, Closed, closed_sound, spare_of, spare_long, spare_stands, spare_none}

crc_bound : (bs : List ℕ) → crc32 bs < 2 ^ 32
unfolding crc32
crc_bound bs = omega arith

-- what the checks before the payload come to
pub record Opened (supported : ℕ) (s : List ℕ) (n : ℕ) : Type 0 where
  pub small : length s ≤ ceiling
  pub long : length s ≡ n + 4
  pub enough : 4 ≤ n
  pub sum : crc32 (take n s) ≡ little 4 s n
  pub least : 1 ≤ little 2 s 2
  pub order : little 2 s 2 ≤ little 2 s 0
  pub read : little 2 s 2 ≤ supported

pub opens : {A : Type 0} (supported : ℕ) (r : Versions → Rule A) (s : List ℕ) (n : ℕ) → Opened supported s n
    → versioned supported r s ≡ closed (strict_of s) n (r (versions_of s) (take n s) 4)
unfolding versioned opened
opens supported r s n o =
    let n_is : length s - 4 ≡ n = omega (arith, o.long) in
    let whole : length (take n s) ≡ n = container_long s n (omega (arith, o.long)) in
    let a : leb (length s) ceiling ≡ true = le-leb (length s) ceiling o.small in
    let b : leb 8 (length s) ≡ true = le-leb 8 (length s) (omega (arith, o.long, o.enough)) in
    let c : eqb (crc32 (take n s)) (little 4 s n) ≡ true = eq-eqb (crc32 (take n s)) (little 4 s n) o.sum in
    let d : leb 1 (little 2 s 2) ≡ true = le-leb 1 (little 2 s 2) o.least in
    let e : leb (little 2 s 2) (little 2 s 0) ≡ true = le-leb (little 2 s 2) (little 2 s 0) o.order in
    let f : leb (little 2 s 2) supported ≡ true = le-leb (little 2 s 2) supported o.read in
    let checks : opened supported s ≡ found (versions_of s) (length s - 4) = rw (a, b, n_is, c, d, e, f) refl in
    ap (enclosed r s) checks ∙ ap (λ (k : ℕ). closed (strict_of s) (length (take k s)) (r (versions_of s) (take k s) 4)) n_is
    ∙ ap (λ (k : ℕ). closed (strict_of s) k (r (versions_of s) (take n s) 4)) whole

-- the checks passed
passed : (supported : ℕ) (s : List ℕ) (v : Versions) (p : ℕ) → opened supported s ≡ found v p
    → Opened supported s (length s - 4) × (v ≡ versions_of s) × (p ≡ length s - 4)
unfolding opened
passed supported s v p e =
    let n = length s - 4 in
    let (c₁, e₁) = pick_found (leb (length s) ceiling) _ _ v p e in
    let (c₂, e₂) = pick_found (leb 8 (length s)) _ _ v p e₁ in
    let (c₃, e₃) = pick_found (eqb (crc32 (take n s)) (checksum_of s)) _ _ v p e₂ in
    let (c₄, e₄) = pick_found (both (leb 1 (little 2 s 2)) (leb (little 2 s 2) (little 2 s 0))) _ _ v p e₃ in
    let (c₅, e₅) = pick_found (leb (little 2 s 2) supported) _ _ v p e₄ in
    let (c₆, c₇) = both_true (leb 1 (little 2 s 2)) (leb (little 2 s 2) (little 2 s 0)) c₄ in
    let eight = leb-true 8 (length s) c₂ in (
      record {
        small = leb-true (length s) ceiling c₁;
        long = omega arith;
        enough = omega arith;
        sum = eqb-true (crc32 (take n s)) (checksum_of s) c₃;
        least = leb-true 1 (little 2 s 2) c₆;
        order = leb-true (little 2 s 2) (little 2 s 0) c₇;
        read = leb-true (little 2 s 2) supported c₅;
      },
      cc,
      cc,
    )

enclosed_found : {A : Type 0} (r : Versions → Rule A) (s : List ℕ) (x : Step Versions) (a : A) (q : ℕ) → enclosed r s x ≡ found a q
    → (v : Versions) × (p : ℕ) × (x ≡ found v p)
enclosed_found r s (found v p) a q e = (v, p, refl)
enclosed_found r s (refused f) a q e = never e

pub was_opened : {A : Type 0} (supported : ℕ) (r : Versions → Rule A) (s : List ℕ) (a : A) (q : ℕ) → versioned supported r s ≡ found a q
    → Opened supported s (length s - 4) × (closed (strict_of s) (length s - 4) (r (versions_of s) (take (length s - 4) s) 4) ≡ found a q)
unfolding versioned
was_opened supported r s a q e =
    let (v, p, x) = enclosed_found r s (opened supported s) a q e in
    let (o, _, _) = passed supported s v p x in
    (o, sym (opens supported r s (length s - 4) o) ∙ e)

-- the tree of an accepted envelope
pub record Tree {A T C : Type 0} (supported : ℕ) (K : Carrier T C) (S : ℕ → Shape T C) (M : C → A → Type 0) (s : List ℕ) (a : A) : Type 0 where
  pub tree : Enveloped T
  pub right : Right supported K S tree
  pub bytes : render_envelope S tree ≡ s
  pub small : length (render_envelope S tree) ≤ ceiling
  pub means : M (K.content tree.inside) a

-- the parts of what stands before the checksum
pub record Parts {T C : Type 0} (S : ℕ → Shape T C) (e : Enveloped T) (s : List ℕ) : Type 0 where
  pub version : little 2 s 0 ≡ e.version
  pub minimum : little 2 s 2 ≡ e.minimum
  pub payload : Stands s 4 ((S e.version).render e.inside ++ e.spare)
  pub long : length (unsummed S e) ≡ 4 + (length ((S e.version).render e.inside) + length e.spare)

pub parts : {T C : Type 0} (S : ℕ → Shape T C) (e : Enveloped T) (s : List ℕ) → e.version < 65536 → e.minimum < 65536 → Stands s 0 (unsummed S e)
    → Parts S e s
unfolding unsummed
parts S e s v m st =
    let b₁ = spelled 2 e.version in
    let b₂ = spelled 2 e.minimum in
    let b₃ = (S e.version).render e.inside ++ e.spare in
    let l₁ = length_spelled 2 e.version in
    let l₂ = length_spelled 2 e.minimum in
    let second : Stands s 2 (b₂ ++ b₃) = rw l₁ at (stands_right b₁ (b₂ ++ b₃) st) in
    let third : Stands s 4 b₃ = rw l₂ at (stands_right b₂ b₃ second) in
    record {
      version = little_spelled 2 e.version (omega arith) (stands_left b₁ (b₂ ++ b₃) st);
      minimum = little_spelled 2 e.minimum (omega arith) (stands_left b₂ b₃ second);
      payload = third;
      long = omega (arith, length-append b₁ (b₂ ++ b₃), length-append b₂ b₃, length-append ((S e.version).render e.inside) e.spare);
    }

joined : {T C : Type 0} (S : ℕ → Shape T C) (e : Enveloped T) (s : List ℕ) → Stands s 0 (spelled 2 e.version) → Stands s 2 (spelled 2 e.minimum)
    → Stands s 4 ((S e.version).render e.inside ++ e.spare) → Stands s 0 (unsummed S e)
unfolding unsummed
joined S e s first second third =
    let b₁ = spelled 2 e.version in
    let b₂ = spelled 2 e.minimum in
    let b₃ = (S e.version).render e.inside ++ e.spare in
    let l₁ = length_spelled 2 e.version in
    let l₂ = length_spelled 2 e.minimum in
    let later : Stands s 2 (b₂ ++ b₃) = stands_join b₂ b₃ second (rw l₂ third) in
    stands_join b₁ (b₂ ++ b₃) first (rw l₁ later)

-- bytes that are sealed
pub record Sealed (s u : List ℕ) : Type 0 where
  pub stands : Stands s 0 u
  pub part : take (length u) s ≡ u
  pub sum : little 4 s (length u) ≡ crc32 u
  pub long : length s ≡ length u + 4

pub sealed_parts : (u : List ℕ) → Sealed (sealed u) u
unfolding sealed
sealed_parts u =
    let whole : Stands (u ++ spelled 4 (crc32 u)) 0 (u ++ spelled 4 (crc32 u)) = record { rest = []; at = sym (append-nil (u ++ spelled 4 (crc32 u))) } in
    let place : 0 + length u ≡ length u = omega arith in
    record {
      stands = record { rest = spelled 4 (crc32 u); at = refl };
      part = take-append_seam u (spelled 4 (crc32 u));
      sum = little_spelled 4 (crc32 u) (omega (arith, crc_bound u)) (rw place at (stands_right u (spelled 4 (crc32 u)) whole));
      long = omega (arith, length-append u (spelled 4 (crc32 u)), length_spelled 4 (crc32 u));
    }

nil_of_length : {A : Type 0} (l : List A) → length l ≡ 0 → l ≡ []
nil_of_length [] e = refl
nil_of_length (x ∷ l) e = absurd (omega arith)

sealed_is : (s u : List ℕ) (n : ℕ) → Bytes s → length s ≡ n + 4 → length u ≡ n → Stands s 0 u → crc32 (take n s) ≡ little 4 s n → sealed u ≡ s
unfolding sealed
sealed_is s u n bytes long size first sum =
    let front : take n s ≡ u = rw size at (part_stands first) in
    let last = spelled_little 4 s n bytes (omega arith) in
    let crc : crc32 u ≡ little 4 s n = ap crc32 (sym front) ∙ sum in
    let none : last.rest ≡ [] = nil_of_length last.rest (omega (arith, ap length last.at, length-append (spelled 4 (little 4 s n)) last.rest, length_spelled 4 (little 4 s n), length-drop n s)) in
    let back : drop n s ≡ spelled 4 (crc32 u) = last.at ∙ ap (λ (l : List ℕ). spelled 4 (little 4 s n) ++ l) none ∙ append-nil (spelled 4 (little 4 s n)) ∙ ap (spelled 4) (sym crc) in
    ap (λ (l : List ℕ). l ++ spelled 4 (crc32 u)) (sym front) ∙ ap (λ (l : List ℕ). take n s ++ l) (sym back) ∙ take-append-drop n s

module _ {A T C : Type 0} (supported : ℕ) (r : Versions → Rule A) (K : Carrier T C) (S : ℕ → Shape T C) (M : List ℕ → C → A → Type 0) (law : (s : List ℕ) (v : Versions) → length s < 2 ^ 31 → Law s v.strict (r v) K (S v.version) (M s)) where
  complete_at : (e : Enveloped T) → Right supported K S e → (s : List ℕ) → length s ≤ ceiling → Sealed s (unsummed S e)
      → Read C (versioned supported r s) (length (unsummed S e)) (M s) (K.content e.inside)
  complete_at e right s small seal =
      let u = unsummed S e in
      let p = parts S e s right.version_fits (omega (arith, right.version_fits, right.order)) seal.stands in
      let n = length u in
      let inner = (S e.version).render e.inside in
      let sum : crc32 (take n s) ≡ little 4 s n = ap crc32 seal.part ∙ sym seal.sum in
      let open' : Opened supported s n = record {
        small = small;
        long = seal.long;
        enough = omega (arith, p.long);
        sum = sum;
        least = rw p.minimum right.least;
        order = rw (p.minimum, p.version) right.order;
        read = rw p.minimum right.read;
      } in
      let strict_is : strict_of s ≡ eqb e.version e.minimum = rw (p.minimum, p.version) refl in
      let plain : strict_of s ≡ true → K.Plain e.inside × (e.spare ≡ []) = λ t. right.plain (sym strict_is ∙ t) in
      let read = (law s (record { version = e.version; strict = strict_of s }) (omega arith)).complete n 4 e.inside (omega (arith, seal.long)) right.valid (λ t. (plain t).0) (stands_left inner e.spare p.payload) (omega (arith, p.long)) in
      let full : strict_of s ≡ true → n ≤ 4 + length inner = λ t. omega (arith, p.long, ap length (plain t).1) in
      record {
        value = read.value;
        reads = opens supported r s n open' ∙ ap (λ (v : ℕ). closed (strict_of s) n (r (record { version = v; strict = strict_of s }) (take n s) 4)) p.version ∙ ap (closed (strict_of s) n) read.reads ∙ closed_complete (λ f. f) (strict_of s) n read.value (4 + length inner) full;
        means = read.means;
      }

  pub envelope_complete : (e : Enveloped T) → Right supported K S e → length (render_envelope S e) ≤ ceiling
      → Read C (versioned supported r (render_envelope S e)) (length (unsummed S e)) (M (render_envelope S e)) (K.content e.inside)
  envelope_complete e right small = complete_at e right (render_envelope S e) small (sealed_parts (unsummed S e))

  sound_at : (s : List ℕ) (n : ℕ) (a : A) (q : ℕ) → Bytes s → Opened supported s n → (shut : Closed (strict_of s) n (r (versions_of s) (take n s) 4) a q)
      → Written s (strict_of s) K (S (version_of s)) (M s) n 4 a shut.place → Tree supported K S (M s) s a
  sound_at s n a q bytes o shut w =
      let spare = spare_of s shut.place n in
      let inside : n ≤ length s = omega (arith, o.long) in
      let e : Enveloped T = record { version = little 2 s 0; minimum = little 2 s 2; inside = w.tree; spare = spare } in
      let inner = (S (little 2 s 0)).render w.tree in
      let version_fits : little 2 s 0 < 65536 = little_bound 2 s 0 bytes in
      let minimum_fits : little 2 s 2 < 65536 = little_bound 2 s 2 bytes in
      let first : Stands s 0 (spelled 2 (little 2 s 0)) = spelled_little 2 s 0 bytes (omega (arith, o.enough)) in
      let second : Stands s 2 (spelled 2 (little 2 s 2)) = spelled_little 2 s 2 bytes (omega (arith, o.enough)) in
      let after : Stands s (4 + length inner) spare = subst (λ (y : ℕ). Stands s y spare) w.stop (spare_stands s shut.place n) in
      let whole : Stands s 0 (unsummed S e) = joined S e s first second (stands_join inner spare w.stands after) in
      let p = parts S e s version_fits minimum_fits whole in
      let size : length (unsummed S e) ≡ n = omega (arith, p.long, spare_long s shut.place n inside w.fits, w.stop, w.fits) in
      let same : render_envelope S e ≡ s = sealed_is s (unsummed S e) n bytes o.long size whole o.sum in
      let small : length (render_envelope S e) ≤ ceiling = rw same o.small in
      let right : Right supported K S e = record {
        version_fits = version_fits;
        least = o.least;
        order = o.order;
        read = o.read;
        valid = w.valid;
        plain = λ t. (w.plain t, spare_none s shut.place n (shut.full t));
      } in
      record { tree = e; right = right; bytes = same; small = small; means = w.means }

  pub envelope_sound : (s : List ℕ) (a : A) (q : ℕ) → Bytes s → versioned supported r s ≡ found a q → Tree supported K S (M s) s a
  envelope_sound s a q bytes reads =
      let (o, e) = was_opened supported r s a q reads in
      let n = length s - 4 in
      let shut = closed_sound (λ f. f) (strict_of s) n (r (versions_of s) (take n s) 4) a q e in
      let w = (law s (versions_of s) (omega (arith, o.small))).sound n 4 a shut.place bytes (omega (arith, o.enough)) (omega arith) o.enough shut.inner in
      sound_at s n a q bytes o shut w

  -- what a right tree of an accepted envelope says is what was read
  pub envelope_known : (t : Enveloped T) → Right supported K S t → (s : List ℕ) → render_envelope S t ≡ s → (a : A) (q : ℕ)
      → versioned supported r s ≡ found a q → M s (K.content t.inside) a
  envelope_known t right s bytes a q reads =
      let (o, _) = was_opened supported r s a q reads in
      let one = envelope_complete t right (rw bytes o.small) in
      let again : versioned supported r (render_envelope S t) ≡ found a q = ap (versioned supported r) bytes ∙ reads in
      let same : one.value ≡ a = cc (one.reads, again) in
      subst₂ (λ (x : List ℕ) (y : A). M x (K.content t.inside) y) bytes same one.means

-- the checksum that a rendered envelope ends with is a number of four bytes
pub checksum_bound : (u : List ℕ) → checksum_of (sealed u) < 256 ^ 4
checksum_bound u =
    let seal = sealed_parts u in
    let place : length (sealed u) - 4 ≡ length u = omega (arith, seal.long) in
    rw (place, seal.sum) (omega (arith, crc_bound u))
