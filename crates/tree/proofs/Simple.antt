-- The laws of numbers, strings, nothing and sequence.
use Prim.Native.Nat.{ℕ, ◌+◌, ◌^◌, ◌≤◌, ◌<◌}
use mathlib.Core.List.{List, ◌++◌}
use mathlib.Core.Bool.{Bool, true}
use mathlib.Core.Path.{◌≡◌, refl, sym, ap, ◌∙◌, subst}
use native.Mathlib.Omega.{arith}
use native.Mathlib.Nat.{add-zero}
use lib.Dec.{leb, eqb}
use borrow.Author.Tests.{leb-true, le-leb, eq-eqb}
use lib.ListN.{length, take, drop, length-append, length-drop}
use lib.Seq.{length-take-le}
use Rattle.numbers.specs.Numbers.{little}
use Rattle.wire.specs.Reading.{Step, found, refused, Rule, after, ◌>>=◌, give, here, number, judged, tested}
use Rattle.wire.proofs.Laws.{never, pick_found, judged_found}
use Rattle.text.specs.Strings.{string_of}
use Rattle.tree.specs.Bytes.{spelled, Stands}
use Rattle.tree.specs.Shape.{Carrier, Shape, Law, bare, number_shape, string_shape_of, chars, nothing_shape, NoVerdict, ◌▷◌, then_shape, seen_shape, dressed, dressed_shape}
use Rattle.tree.proofs.Place.{length_spelled, stands_left, stands_right, stands_join, stands_none, stands_part, part_stands, little_spelled, little_bound, spelled_little, container_long, little_container, part_in}

module _ (s : List ℕ) (strict : Bool) where
  -- a number
  pub plain_law : (k : ℕ) → Law s strict (number k) bare (number_shape k NoVerdict) (λ n a. a ≡ n)
  unfolding number
  plain_law k =
      record {
        complete = λ end p n inside valid plain stands fits.
            let long : length (spelled k n) ≡ k = length_spelled k n in
            let there : little k (take end s) p ≡ n = little_container s end inside k p (omega arith) ∙ little_spelled k n valid.0 stands in
            let room : leb (p + k) (length (take end s)) ≡ true = le-leb (p + k) (length (take end s)) (omega (arith, container_long s end inside)) in
            record { value = n; reads = rw (there, room, long) refl; means = refl };
        sound = λ end p a q bytes some inside at reads.
            let (room, reads') = pick_found (leb (p + k) (length (take end s))) _ _ a q reads in
            let room' : p + k ≤ end = omega (arith, leb-true (p + k) (length (take end s)) room, container_long s end inside) in
            let there = little_container s end inside k p room' in
            let long : length (spelled k (little k s p)) ≡ k = length_spelled k _ in
            let stop : q ≡ p + k = cc in
            let value : little k (take end s) p ≡ a = cc in
            record {
              tree = little k s p;
              valid = (little_bound k s p bytes, refl);
              plain = λ _. tt;
              stands = spelled_little k s p bytes (omega arith);
              stop = rw long stop;
              fits = omega arith;
              means = sym value ∙ there;
            };
      }

  -- a number with a verdict, which the shape may put in other words
  pub number_law : (k : ℕ) (verdict verdict' : ℕ → ℕ) → ((n : ℕ) → verdict n ≡ verdict' n)
      → Law s strict (tested k verdict) bare (number_shape k verdict') (λ n a. a ≡ n)
  unfolding judged
  number_law k verdict verdict' same =
      record {
        complete = λ end p n inside valid plain stands fits.
            let r = (plain_law k).complete end p n inside (valid.0, refl) plain stands fits in
            let good : eqb (verdict n) 0 ≡ true = eq-eqb (verdict n) 0 (same n ∙ valid.1) in
            record {
              value = n;
              reads = ap (judged verdict p) (r.reads ∙ ap (λ (m : ℕ). found m (p + length (spelled k n))) r.means) ∙ rw good refl;
              means = refl;
            };
        sound = λ end p a q bytes some inside at reads.
            let (reads', good) = judged_found verdict p (number k (take end s) p) reads in
            let w = (plain_law k).sound end p a q bytes some inside at reads' in
            record {
              tree = w.tree;
              valid = (w.valid.0, sym (same _) ∙ ap verdict (sym w.means) ∙ good);
              plain = λ _. tt;
              stands = w.stands;
              stop = w.stop;
              fits = w.fits;
              means = w.means;
            };
      }

  pub nothing_law : {A : Type 0} (x : A) (M : Unit {0} → A → Type 0) → M tt x → Law s strict (give x) bare nothing_shape M
  nothing_law x M m =
      record {
        complete = λ end p t inside valid plain stands fits. record { value = x; reads = rw (add-zero p) refl; means = m };
        sound = λ end p a q bytes some inside at reads.
            let same : x ≡ a = cc in
            let stop : q ≡ p = cc in
            record {
              tree = tt;
              valid = tt;
              plain = λ _. tt;
              stands = stands_none s p;
              stop = rw (add-zero p) stop;
              fits = omega arith;
              means = rw same at m;
            };
      }

  -- the place is handed on
  pub here_law : {B T C : Type 0} {k : ℕ → Rule B} {K : Carrier T C} {S : Shape T C} {M : C → B → Type 0}
      → ((at : ℕ) → Law s strict (k at) K S M) → Law s strict (here >>= k) K S M
  here_law law =
      record {
        complete = λ end p t inside valid plain stands fits. (law p).complete end p t inside valid plain stands fits;
        sound = λ end p a q bytes some inside at reads. (law p).sound end p a q bytes some inside at reads;
      }

  pub string_law : {good : List ℕ → Bool} → length s < 2 ^ 31 → Law s strict (string_of good) bare (string_shape_of good) (λ cs a. chars s a ≡ cs)
  unfolding string_of
  string_law {good} small =
      record {
        complete = λ end p cs inside valid plain stands fits.
            let head = length_spelled 4 (length cs) in
            let long = length-append (spelled 4 (length cs)) cs in
            let whole = container_long s end inside in
            let there : little 4 (take end s) p ≡ length cs = little_container s end inside 4 p (omega arith) ∙ little_spelled 4 (length cs) (omega arith) (stands_left (spelled 4 (length cs)) cs stands) in
            let room : leb (p + 4) (length (take end s)) ≡ true = le-leb (p + 4) (length (take end s)) (omega arith) in
            let room' : leb (p + 4 + length cs) (length (take end s)) ≡ true = le-leb (p + 4 + length cs) (length (take end s)) (omega arith) in
            let right : Stands s (p + 4) cs = rw head at (stands_right (spelled 4 (length cs)) cs stands) in
            let part : take (length cs) (drop (p + 4) s) ≡ cs = part_stands right in
            let part' : take (length cs) (drop (p + 4) (take end s)) ≡ cs = part_in s end (p + 4) (length cs) (omega arith) ∙ part in
            let stop : p + 4 + length cs ≡ p + length (spelled 4 (length cs) ++ cs) = omega arith in
            record { value = record { place = p + 4; len = length cs }; reads = rw (there, room, room', part', valid, stop) refl; means = part };
        sound = λ end p a q bytes some inside at reads.
            let whole = container_long s end inside in
            let (room, reads') = pick_found (leb (p + 4) (length (take end s))) _ _ a q reads in
            let head_fits : p + 4 ≤ end = omega (arith, leb-true (p + 4) (length (take end s)) room) in
            let n = little 4 s p in
            let same_number_lem : little 4 (take end s) p ≡ n = little_container s end inside 4 p head_fits in
            let (room', reads'') = pick_found (leb (p + 4 + little 4 (take end s) p) (length (take end s))) _ _ a q reads' in
            let (right-characters, reads''') = pick_found (good (take (little 4 (take end s) p) (drop (p + 4) (take end s)))) _ _ a q reads'' in
            let fits : p + 4 + n ≤ end = omega (arith, leb-true (p + 4 + little 4 (take end s) p) (length (take end s)) room') in
            let stop' : q ≡ p + 4 + little 4 (take end s) p = cc in
            let stop : q ≡ p + 4 + n = omega arith in
            let same' : record { place = p + 4; len = little 4 (take end s) p } ≡ a = cc in
            let same : record { place = p + 4; len = n } ≡ a = rw same_number_lem at same' in
            let cs = take n (drop (p + 4) s) in
            let part : take (little 4 (take end s) p) (drop (p + 4) (take end s)) ≡ cs = ap (λ (m : ℕ). take m (drop (p + 4) (take end s))) same_number_lem ∙ part_in s end (p + 4) n fits in
            let long : length cs ≡ n = length-take-le n (drop (p + 4) s) (omega (arith, length-drop (p + 4) s)) in
            let head = length_spelled 4 (length cs) in
            let left : Stands s p (spelled 4 (length cs)) = rw long (spelled_little 4 s p bytes (omega arith)) in
            let right : Stands s (p + length (spelled 4 (length cs))) cs = rw head (stands_part s (p + 4) n) in
            record {
              tree = cs;
              valid = sym (ap good part) ∙ right-characters;
              plain = λ _. tt;
              stands = stands_join (spelled 4 (length cs)) cs left right;
              stop = omega (arith, length-append (spelled 4 (length cs)) cs);
              fits = omega arith;
              means = sym (ap (chars s) same);
            };
      }

-- a step that another follows found something
pub after_found : {A B : Type 0} (k : A → Rule B) (s : List ℕ) (x : Step A) (b : B) (q : ℕ) → after k s x ≡ found b q
    → (a : A) × (p : ℕ) × (x ≡ found a p) × (k a s p ≡ found b q)
after_found k s (found a p) b q e = (a, p, refl, e)
after_found k s (refused f) b q e = never e

pub then_law : {A B T C U D : Type 0} (s : List ℕ) (strict : Bool) (R : Rule A) (k : A → Rule B) (K : Carrier T C) (L : Carrier U D) (S : Shape T C) (G : C → Shape U D) (M : C → A → Type 0) (N : C × D → B → Type 0)
    → Law s strict R K S M → ((c : C) (a : A) → M c a → Law s strict (k a) L (G c) (λ d b. N (c, d) b))
    → Law s strict (R >>= k) (K ▷ L) (then_shape K S G) N
then_law s strict R k K L S G M N first second =
    record {
      complete = λ end p t inside valid plain stands fits.
          let c = K.content t.0 in
          let b₁ = S.render t.0 in
          let b₂ = (G c).render t.1 in
          let long = length-append b₁ b₂ in
          let one = first.complete end p t.0 inside valid.0 (λ e. (plain e).0) (stands_left b₁ b₂ stands) (omega arith) in
          let two = (second c one.value one.means).complete end (p + length b₁) t.1 inside valid.1 (λ e. (plain e).1) (stands_right b₁ b₂ stands) (omega arith) in
          let stop : p + length b₁ + length b₂ ≡ p + length (b₁ ++ b₂) = omega arith in
          record {
            value = two.value;
            reads = ap (after k (take end s)) one.reads ∙ two.reads ∙ ap (found two.value) stop;
            means = two.means;
          };
      sound = λ end p b q bytes some inside at reads.
          let (a, p', r₁, r₂) = after_found k (take end s) (R (take end s) p) b q reads in
          let one = first.sound end p a p' bytes some inside at r₁ in
          let c = K.content one.tree in
          let two = (second c a one.means).sound end p' b q bytes some inside one.fits r₂ in
          let b₁ = S.render one.tree in
          let b₂ = (G c).render two.tree in
          let right : Stands s (p + length b₁) b₂ = subst (λ (x : ℕ). Stands s x b₂) one.stop two.stands in
          record {
            tree = (one.tree, two.tree);
            valid = (one.valid, two.valid);
            plain = λ e. (one.plain e, two.plain e);
            stands = stands_join b₁ b₂ one.stands right;
            stop = omega (arith, length-append b₁ b₂, one.stop, two.stop);
            fits = two.fits;
            means = two.means;
          };
    }

-- the same where nothing is framed
pub next : {A B T U : Type 0} {s : List ℕ} {strict : Bool} {R : Rule A} {k : A → Rule B} {S : Shape T T} {G : T → Shape U U} {M : T → A → Type 0} {N : T × U → B → Type 0}
    → Law s strict R bare S M → ((c : T) (a : A) → M c a → Law s strict (k a) bare (G c) (λ d b. N (c, d) b))
    → Law s strict (R >>= k) bare (then_shape bare S G) N
next {s = s} {strict = strict} {R = R} {k = k} {S = S} {G = G} {M = M} {N = N} first second =
    let law = then_law s strict R k bare bare S G M N first second in
    record {
      complete = λ end p t inside valid plain stands fits. law.complete end p t inside valid (λ e. (tt, tt)) stands fits;
      sound = λ end p b q bytes some inside at reads.
          let w = law.sound end p b q bytes some inside at reads in
          record { tree = w.tree; valid = w.valid; plain = λ _. tt; stands = w.stands; stop = w.stop; fits = w.fits; means = w.means };
    }

-- the same trees in another dress
pub seen_law : {A T C : Type 0} {s : List ℕ} {strict : Bool} {R : Rule A} {S : Shape T T} {M : C → A → Type 0} (to : C → T) (from : T → C)
    → ((c : C) → from (to c) ≡ c) → ((t : T) → to (from t) ≡ t) → Law s strict R bare S (λ t a. M (from t) a)
    → Law s strict R bare (seen_shape to S) M
seen_law {s = s} {R = R} {S = S} {M = M} to from there back law =
    record {
      complete = λ end p c inside valid plain stands fits.
          let r = law.complete end p (to c) inside valid (λ _. tt) stands fits in
          record { value = r.value; reads = r.reads; means = subst (λ d. M d r.value) (there c) r.means };
      sound = λ end p a q bytes some inside at reads.
          let w = law.sound end p a q bytes some inside at reads in
          let e = sym (back w.tree) in
          record {
            tree = from w.tree;
            valid = subst S.Valid e w.valid;
            plain = λ _. tt;
            stands = subst (λ t. Stands s p (S.render t)) e w.stands;
            stop = subst (λ t. q ≡ p + length (S.render t)) e w.stop;
            fits = w.fits;
            means = w.means;
          };
    }

-- the same of trees with frames
pub dressed_law : {A T U C D : Type 0} {s : List ℕ} {strict : Bool} {R : Rule A} {K : Carrier U D} {S : Shape U D} {M : C → A → Type 0} (to : T → U) (from : U → T) (into : C → D) (back : D → C)
    → ((u : U) → to (from u) ≡ u) → ((d : D) → into (back d) ≡ d) → Law s strict R K S (λ d a. M (back d) a)
    → Law s strict R (dressed to back K) (dressed_shape to into S) M
dressed_law {U = U} {C = C} {s = s} {strict = strict} {R = R} {K = K} {S = S} {M = M} to from into back there again law =
    record {
      complete = λ end p t inside valid plain stands fits.
          let r = law.complete end p (to t) inside (subst S.Valid (again (K.content (to t))) valid) plain stands fits in
          record { value = r.value; reads = r.reads; means = r.means };
      sound = λ end p a q bytes some inside at reads.
          let w = law.sound end p a q bytes some inside at reads in
          let same : w.tree ≡ to (from w.tree) = sym (there w.tree) in
          record {
            tree = from w.tree;
            valid = subst S.Valid (ap K.content same ∙ sym (again (K.content (to (from w.tree))))) w.valid;
            plain = λ e. subst K.Plain same (w.plain e);
            stands = subst (λ (u : U). Stands s p (S.render u)) same w.stands;
            stop = w.stop ∙ ap (λ (u : U). p + length (S.render u)) same;
            fits = w.fits;
            means = subst (λ (c : C). M c a) (ap (λ (u : U). back (K.content u)) same) w.means;
          };
    }

-- the law of a sequence, its parts found from the laws of the first and the second
pub follow : {A B T C U D : Type 0} {s : List ℕ} {strict : Bool} {R : Rule A} {k : A → Rule B} {K : Carrier T C} {L : Carrier U D} {S : Shape T C} {G : C → Shape U D} {M : C → A → Type 0} {N : C × D → B → Type 0}
    → Law s strict R K S M → ((c : C) (a : A) → M c a → Law s strict (k a) L (G c) (λ d b. N (c, d) b))
    → Law s strict (R >>= k) (K ▷ L) (then_shape K S G) N
follow {s = s} {strict = strict} {R = R} {k = k} {K = K} {L = L} {S = S} {G = G} {M = M} {N = N} first second = then_law s strict R k K L S G M N first second

-- a value may be said to mean a content in other words
pub meant : {A T C : Type 0} {s : List ℕ} {strict : Bool} {R : Rule A} {K : Carrier T C} {S : Shape T C} {M : C → A → Type 0} {N : C → A → Type 0}
    → ((c : C) (a : A) → M c a → N c a) → Law s strict R K S M → Law s strict R K S N
meant {K = K} says law =
    record {
      complete = λ end p t inside valid plain stands fits.
          let r = law.complete end p t inside valid plain stands fits in
          record { value = r.value; reads = r.reads; means = says (K.content t) r.value r.means };
      sound = λ end p a q bytes some inside at reads.
          let w = law.sound end p a q bytes some inside at reads in
          record {
            tree = w.tree;
            valid = w.valid;
            plain = w.plain;
            stands = w.stands;
            stop = w.stop;
            fits = w.fits;
            means = says (K.content w.tree) a w.means;
          };
    }
