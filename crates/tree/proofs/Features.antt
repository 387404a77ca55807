-- The law of feature words.
use Prim.Native.Nat.{ℕ, zero, suc, ◌+◌, ◌*◌, ◌%◌, ◌^◌, ◌≤◌, ◌<◌}
use mathlib.Core.List.{List, ◌++◌}
use mathlib.Core.Bool.{Bool, true, false}
use mathlib.Core.Path.{◌≡◌, refl, sym, ap, ◌∙◌}
use native.Mathlib.Omega.{arith}
use lib.Dec.{eqb}
use borrow.Author.Tests.{eqb-true, eqb-false}
use lib.ListN.{length, take, length-append}
use Rattle.numbers.specs.Choice.{pick}
use Rattle.wire.specs.Reading.{found, after, give, tested}
use Rattle.envelope.specs.Features.{feature_bits, features}
use Rattle.tree.specs.Bytes.{spelled, Stands, Bytes}
use Rattle.tree.specs.Shape.{Written, Law, bare, number_shape}
use Rattle.tree.specs.HeaderTree.{feature_words, features_shape}
use Rattle.tree.proofs.Place.{length_spelled, stands_left, stands_right, stands_join, container_long}
use Rattle.tree.proofs.Simple.{number_law, after_found}

allowed_word : (w : ℕ) (b : Bool) → eqb (w % 2 ^ 63) 0 ≡ b → feature_bits w ≡ 0 → w % 2 ^ 63 ≡ 0
allowed_word w true e h = eqb-true (w % 2 ^ 63) 0 e
allowed_word w false e h = let z : ◌≡◌ {A = ℕ} 6 0 = rw e at h in absurd (omega arith)

-- feature words that stand there
record Words (s : List ℕ) (end p q : ℕ) : Type 0 where
  count : ℕ
  stands : Stands s p (feature_words count)
  stop : q ≡ p + length (feature_words count)
  fits : q ≤ end

module _ (s : List ℕ) (strict : Bool) where
  word_law : Law s strict (tested 8 feature_bits) bare (number_shape 8 feature_bits) (λ n a. a ≡ n)
  word_law = number_law s strict 8 feature_bits feature_bits (λ n. refl)

  features_complete : (k most : ℕ) → k < most → (end p : ℕ) → end ≤ length s → Stands s p (feature_words k) → p + length (feature_words k) ≤ end
      → features most (take end s) p ≡ found tt (p + length (feature_words k))
  unfolding features feature_words
  features_complete k zero less end p inside stands fits = absurd (omega arith)
  features_complete zero (suc most) less end p inside stands fits =
      let one = word_law.complete end p 0 inside (omega arith, refl) (λ _. tt) stands fits in
      let last : eqb one.value 0 ≡ true = rw one.means refl in
      ap (after (λ w. pick (eqb w 0) (give tt) (features most)) (take end s)) one.reads ∙ rw last refl
  features_complete (suc k) (suc most) less end p inside stands fits =
      let b₁ = spelled 8 (2 ^ 63) in
      let b₂ = feature_words k in
      let long = length-append b₁ b₂ in
      let one = word_law.complete end p (2 ^ 63) inside (omega arith, refl) (λ _. tt) (stands_left b₁ b₂ stands) (omega arith) in
      let more : eqb one.value 0 ≡ false = rw one.means refl in
      let two = features_complete k most (omega arith) end (p + length b₁) inside (stands_right b₁ b₂ stands) (omega arith) in
      let stop : p + length b₁ + length b₂ ≡ p + length (b₁ ++ b₂) = omega arith in
      ap (after (λ w. pick (eqb w 0) (give tt) (features most)) (take end s)) one.reads ∙ rw more two ∙ ap (found tt) stop

  features_sound : (most : ℕ) (end p : ℕ) (u : Unit {0}) (q : ℕ) → Bytes s → 0 < end → end ≤ length s → p ≤ end → end < p + 8 * most
      → features most (take end s) p ≡ found u q → Words s end p q
  unfolding features feature_words
  features_sound zero end p u q bytes some inside at enough reads = absurd (omega arith)
  features_sound (suc most) end p u q bytes some inside at enough reads =
      let (a, p', r₁, r₂) = after_found (λ w. pick (eqb w 0) (give tt) (features most)) (take end s) (tested 8 feature_bits (take end s) p) u q reads in
      let one = word_law.sound end p a p' bytes some inside at r₁ in
      go one (eqb a 0) refl r₂ (features_sound most end p' u q bytes some inside one.fits (omega (arith, one.stop, length_spelled 8 one.tree)))
    where
      go : {a p' : ℕ} (one : Written s strict bare (number_shape 8 feature_bits) (λ n x. x ≡ n) end p a p') (b : Bool) → eqb a 0 ≡ b
          → pick b (give tt) (features most) (take end s) p' ≡ found u q → (features most (take end s) p' ≡ found u q → Words s end p' q) → Words s end p q
      go {a} {p'} one true e r later =
          let none : one.tree ≡ 0 = sym one.means ∙ eqb-true a 0 e in
          let stop : q ≡ p' = cc in
          record { count = 0; stands = rw none at one.stands; stop = stop ∙ (rw none at one.stop); fits = omega (arith, one.fits) }
      go {a} {p'} one false e r later =
          let two = later r in
          let zero_mod : one.tree % 2 ^ 63 ≡ 0 = allowed_word one.tree (eqb (one.tree % 2 ^ 63) 0) refl one.valid.1 in
          let same : a ≡ one.tree = one.means in
          let nonzero : a ≡ 0 → ⊥ = eqb-false a 0 e in
          let word : one.tree ≡ 2 ^ 63 = omega (arith, one.valid.0) in
          let b₁ = spelled 8 (2 ^ 63) in
          let b₂ = feature_words two.count in
          let left : Stands s p b₁ = rw word at one.stands in
          let place : p' ≡ p + length b₁ = rw word at one.stop in
          let right : Stands s (p + length b₁) b₂ = rw place at two.stands in
          record {
            count = suc two.count;
            stands = stands_join b₁ b₂ left right;
            stop = omega (arith, two.stop, length-append b₁ b₂);
            fits = two.fits;
          }

pub length_feature_words : (k : ℕ) → length (feature_words k) ≡ 8 * suc k
unfolding feature_words
length_feature_words zero = omega (arith, length_spelled 8 0)
length_feature_words (suc k) = omega (arith, length-append (spelled 8 (2 ^ 63)) (feature_words k), length_spelled 8 (2 ^ 63), length_feature_words k)

pub features_law : (s : List ℕ) (strict : Bool) → Law s strict (λ c. features (length c) c) bare features_shape (λ k u. Unit {0})
features_law s strict =
    record {
      complete = λ end p k inside valid plain stands fits.
          let whole = container_long s end inside in
          record {
            value = tt;
            reads = features_complete s strict k (length (take end s)) (omega (arith, length_feature_words k)) end p inside stands fits;
            means = tt;
          };
      sound = λ end p u q bytes some inside at reads.
          let whole = container_long s end inside in
          let w = features_sound s strict (length (take end s)) end p u q bytes some inside at (omega arith) reads in
          record { tree = w.count; valid = tt; plain = λ _. tt; stands = w.stands; stop = w.stop; fits = w.fits; means = tt };
    }
