-- The laws of frames.
use Prim.Native.Nat.{ℕ, zero, suc, ◌+◌, ◌-◌, ◌^◌, ◌≤◌, ◌<◌}
use mathlib.Core.List.{List, [], ◌∷◌, ◌++◌, append_assoc, append-nil, map, map-append}
use mathlib.Core.Bool.{Bool, true, false}
use mathlib.Core.Path.{◌≡◌, refl, sym, ap, ◌∙◌, subst}
use native.Mathlib.Omega.{arith}
use native.Mathlib.Nat.{add-zero}
use lib.Dec.{ltb, leb, eqb}
use borrow.Author.Tests.{leb-true, eqb-true, ltb-true, ltb-false, le-leb, eq-eqb, lt-ltb, le-ltb}
use lib.ListN.{length, take, drop, length-append, length-drop, length-map}
use lib.Seq.{length-take-le}
use Rattle.numbers.specs.Lists.{Each}
use Rattle.numbers.specs.Choice.{pick}
use Rattle.numbers.proofs.Choice.{clash}
use Rattle.numbers.specs.Numbers.{little}
use Rattle.wire.specs.Reading.{Step, found, refused, Rule, after, in_item}
use Rattle.wire.proofs.Laws.{never, pick_found}
use Rattle.frames.specs.Frames.{closed_by, closed, frame_size, record_head, record_end, list_end, record_body, record_of, list_stop, list_count, count_judged, list_head, list_body, list_of, within, items}
use Rattle.frames.specs.declared.ListHead.{ListHead as Head}
use Rattle.frames.specs.declared.FrameSize.TheVariants.{RecordSize, ListSize}
use Rattle.wire.specs.declared.Fault.{Fault}
use Rattle.tree.specs.Bytes.{spelled, Stands, Bytes}
use Rattle.tree.specs.Shape.{Carrier, Shape, Read, Written, Law, bare, framed, record_shape, render_items, ValidItems, Means, none, more, list_carrier, list_shape}
use Rattle.tree.proofs.Place.{length_spelled, stands_left, stands_right, stands_join, stands_none, stands_part, little_spelled, little_bound, spelled_little, container_long, little_container, container_in}
use Rattle.tree.proofs.Simple.{after_found, meant}

-- a container's end

pub closed_complete : {A : Type 0} (mark : Fault → Fault) (strict : Bool) (stop : ℕ) (a : A) (p : ℕ) → (strict ≡ true → stop ≤ p)
    → closed_by mark strict stop (found a p) ≡ found a stop
closed_complete mark true stop a p h = rw (le-ltb p stop (h refl)) refl
closed_complete mark false stop a p h = refl

-- what a container that was closed holds
pub record Closed {A : Type 0} (strict : Bool) (stop : ℕ) (x : Step A) (a : A) (q : ℕ) : Type 0 where
  pub place : ℕ
  pub inner : x ≡ found a place
  pub stops : q ≡ stop
  pub full : strict ≡ true → stop ≤ place

closed_strict : {A : Type 0} (f : Fault) (stop p : ℕ) (b a : A) (q : ℕ) (t : Bool) → ltb p stop ≡ t → pick t (refused f) (found b stop) ≡ found a q
    → Closed true stop (found b p) a q
closed_strict f stop p b a q true h e = never e
closed_strict f stop p b a q false h e = record { place = p; inner = cc; stops = cc; full = λ _. ltb-false p stop h }

pub closed_sound : {A : Type 0} (mark : Fault → Fault) (strict : Bool) (stop : ℕ) (x : Step A) (a : A) (q : ℕ) → closed_by mark strict stop x ≡ found a q
    → Closed strict stop x a q
closed_sound mark strict stop (refused f) a q e = never e
closed_sound mark true stop (found b p) a q e = closed_strict _ stop p b a q (ltb p stop) refl e
closed_sound mark false stop (found b p) a q e = record { place = p; inner = cc; stops = cc; full = λ f. clash f refl }

-- spare bytes from p up to a frame's end
pub spare_of : List ℕ → ℕ → ℕ → List ℕ
spare_of s p stop = take (stop - p) (drop p s)

module _ (s : List ℕ) (p stop : ℕ) where
  pub spare_long : stop ≤ length s → p ≤ stop → length (spare_of s p stop) ≡ stop - p
  unfolding spare_of
  spare_long inside fits = length-take-le (stop - p) (drop p s) (omega (arith, length-drop p s))

  pub spare_stands : Stands s p (spare_of s p stop)
  unfolding spare_of
  spare_stands = stands_part s p (stop - p)

  pub spare_none : stop ≤ p → spare_of s p stop ≡ []
  unfolding spare_of
  spare_none h = let z : stop - p ≡ 0 = omega arith in rw z refl

-- a record frame's head

pub record_head_complete : (s : List ℕ) (end p n : ℕ) → end ≤ length s → little 4 s p ≡ n → n < 2 ^ 31 → 4 ≤ n → p + n ≤ end
    → record_head (take end s) p ≡ found (p + 4) (p + n)
unfolding record_head frame_size
record_head_complete s end p n inside there small big fits =
    let whole = container_long s end inside in
    let there' : little 4 (take end s) p ≡ n = little_container s end inside 4 p (omega arith) ∙ there in
    let a : leb (p + 4) (length (take end s)) ≡ true = le-leb (p + 4) (length (take end s)) (omega arith) in
    let b : ltb n (2 ^ 31) ≡ true = lt-ltb n (2 ^ 31) small in
    let c : leb 4 n ≡ true = le-leb 4 n big in
    let d : leb (p + n) (length (take end s)) ≡ true = le-leb (p + n) (length (take end s)) (omega arith) in
    rw (there', a, b, c, d) refl

record RecordHead (s : List ℕ) (end p start stop : ℕ) : Type 0 where
  head : p + 4 ≤ end
  least : 4 ≤ little 4 s p
  most : little 4 s p < 2 ^ 31
  starts : start ≡ p + 4
  stops : stop ≡ p + little 4 s p
  fits : stop ≤ end

-- a size word of a record, and of a list

record_size_lem : (n : ℕ) (b : Bool) → ltb n (2 ^ 31) ≡ b → (c : List ℕ) (p start stop : ℕ)
    → record_end c p (pick b (RecordSize n) (ListSize (2 ^ 32 - n))) ≡ found start stop
    → (n < 2 ^ 31) × (4 ≤ n) × (p + n ≤ length c) × (start ≡ p + 4) × (stop ≡ p + n)
record_size_lem n true e c p start stop reads =
    let (a, e₁) = pick_found (leb 4 n) _ _ start stop reads in
    let (b, e₂) = pick_found (leb (p + n) (length c)) _ _ start stop e₁ in
    (ltb-true n (2 ^ 31) e, leb-true 4 n a, leb-true (p + n) (length c) b, cc, cc)
record_size_lem n false e c p start stop reads = never reads

list_size : (n : ℕ) (b : Bool) → ltb n (2 ^ 31) ≡ b → (c : List ℕ) (p start stop : ℕ)
    → list_end c p (pick b (RecordSize n) (ListSize (2 ^ 32 - n))) ≡ found start stop
    → (2 ^ 31 ≤ n) × (8 ≤ 2 ^ 32 - n) × (p + (2 ^ 32 - n) ≤ length c) × (start ≡ p + 8) × (stop ≡ p + (2 ^ 32 - n))
list_size n true e c p start stop reads = never reads
list_size n false e c p start stop reads =
    let (a, e₁) = pick_found (leb 8 (2 ^ 32 - n)) _ _ start stop reads in
    let (b, e₂) = pick_found (leb (p + (2 ^ 32 - n)) (length c)) _ _ start stop e₁ in
    (ltb-false n (2 ^ 31) e, leb-true 8 (2 ^ 32 - n) a, leb-true (p + (2 ^ 32 - n)) (length c) b, cc, cc)

record_head_sound : (s : List ℕ) (end p start stop : ℕ) → end ≤ length s → record_head (take end s) p ≡ found start stop → RecordHead s end p start stop
unfolding record_head frame_size
record_head_sound s end p start stop inside e =
    let c = take end s in
    let whole = container_long s end inside in
    let (a, e₁) = pick_found (leb (p + 4) (length c)) _ _ start stop e in
    let head : p + 4 ≤ end = omega (arith, leb-true (p + 4) (length c) a) in
    let there : little 4 c p ≡ little 4 s p = little_container s end inside 4 p head in
    let (most, least, fits, starts, stops) = record_size_lem (little 4 c p) (ltb (little 4 c p) (2 ^ 31)) refl c p start stop e₁ in
    record { head = head; least = omega arith; most = omega arith; starts = starts; stops = omega arith; fits = omega arith }

-- a record frame

-- around what stands in it
record_written : {A T C : Type 0} (s : List ℕ) (strict : Bool) (K : Carrier T C) (S : Shape T C) (M : C → A → Type 0) (x : Step A) (end p start stop : ℕ) (a : A) (q : ℕ)
    → Bytes s → end ≤ length s → RecordHead s end p start stop → (shut : Closed strict stop x a q) → Written s strict K S M stop (p + 4) a shut.place
    → Written s strict (framed K) (record_shape S) M end p a q
record_written s strict K S M x end p start stop a q bytes inside head shut w =
    let inner = S.render w.tree in
    let within : stop ≤ length s = omega (arith, head.fits) in
    let spare = spare_of s shut.place stop in
    let spare_length : length spare ≡ stop - shut.place = spare_long s shut.place stop within w.fits in
    let body = inner ++ spare in
    let long' = length-append inner spare in
    let size : 4 + length body ≡ little 4 s p = omega (arith, head.stops, head.least, w.stop, w.fits) in
    let word = length_spelled 4 (4 + length body) in
    let left : Stands s p (spelled 4 (4 + length body)) = rw size (spelled_little 4 s p bytes (omega (arith, head.head))) in
    let right : Stands s (p + 4 + length inner) spare = subst (λ (y : ℕ). Stands s y spare) w.stop (spare_stands s shut.place stop) in
    let content : Stands s (p + length (spelled 4 (4 + length body))) body = rw word (stands_join inner spare w.stands right) in
    record {
      tree = record { inside = w.tree; spare = spare };
      valid = w.valid;
      plain = λ e. (w.plain e, spare_none s shut.place stop (shut.full e));
      stands = stands_join (spelled 4 (4 + length body)) body left content;
      stop = omega (arith, shut.stops, head.stops, length-append (spelled 4 (4 + length body)) body);
      fits = omega (arith, shut.stops, head.fits);
      means = w.means;
    }

-- a record frame is read as its content is
record_reads : {A : Type 0} (strict : Bool) (R : Rule A) (s : List ℕ) (end p start stop : ℕ) (a : A) (q stop' : ℕ)
    → record_head (take end s) p ≡ found start stop → take stop (take end s) ≡ take stop s → R (take stop s) start ≡ found a q → (strict ≡ true → stop ≤ q)
    → stop ≡ stop' → record_of strict R (take end s) p ≡ found a stop'
unfolding record_of
record_reads strict R s end p start stop a q stop' head frame inner full stops =
    ap (record_body strict R (take end s)) head ∙ ap (λ (c : List ℕ). closed strict stop (R c start)) frame ∙ ap (closed strict stop) inner
    ∙ closed_complete (λ f. f) strict stop a q full ∙ ap (found a) stops

pub record_law : {A T C : Type 0} (s : List ℕ) (strict : Bool) (R : Rule A) (K : Carrier T C) (S : Shape T C) (M : C → A → Type 0) → length s < 2 ^ 31
    → Law s strict R K S M → Law s strict (record_of strict R) (framed K) (record_shape S) M
unfolding record_of
record_law {A} {T} {C} s strict R K S M small law =
    record {
      complete = λ end p f inside valid plain stands fits.
          let inner = S.render f.inside in
          let body = inner ++ f.spare in
          let n = 4 + length body in
          let word = length_spelled 4 n in
          let long = length-append (spelled 4 n) body in
          let long' = length-append inner f.spare in
          let there : little 4 s p ≡ n = little_spelled 4 n (omega arith) (stands_left (spelled 4 n) body stands) in
          let head : record_head (take end s) p ≡ found (p + 4) (p + n) = record_head_complete s end p n inside there (omega arith) (omega arith) (omega arith) in
          let frame : take (p + n) (take end s) ≡ take (p + n) s = container_in s end inside (p + n) (omega arith) in
          let content : Stands s (p + 4) body = rw word at (stands_right (spelled 4 n) body stands) in
          let read = law.complete (p + n) (p + 4) f.inside (omega arith) valid (λ e. (plain e).0) (stands_left inner f.spare content) (omega arith) in
          let full : strict ≡ true → p + n ≤ p + 4 + length inner = λ e. omega (arith, ap length (plain e).1) in
          let stop : p + n ≡ p + length (spelled 4 n ++ body) = omega arith in
          record {
            value = read.value;
            reads = record_reads strict R s end p (p + 4) (p + n) read.value (p + 4 + length inner) _ head frame read.reads full stop;
            means = read.means;
          };
      sound = λ end p a q bytes some inside at reads. go end p a q bytes inside (record_head (take end s) p) refl reads;
    }
  where
    go : (end p : ℕ) (a : A) (q : ℕ) → Bytes s → end ≤ length s → (h : Step ℕ) → record_head (take end s) p ≡ h
        → record_body strict R (take end s) h ≡ found a q → Written s strict (framed K) (record_shape S) M end p a q
    go end p a q bytes inside (refused f) e reads = never reads
    go end p a q bytes inside (found start stop) e reads =
        let head = record_head_sound s end p start stop inside e in
        let step = R (take stop (take end s)) start in
        let shut = closed_sound (λ f. f) strict stop step a q reads in
        let frame : take stop (take end s) ≡ take stop s = container_in s end inside stop head.fits in
        let inner : R (take stop s) (p + 4) ≡ found a shut.place = sym (λ i. R (frame i) (head.starts i)) ∙ shut.inner in
        let w = law.sound stop (p + 4) a shut.place bytes (omega (arith, head.stops, head.least)) (omega (arith, head.fits)) (omega (arith, head.stops, head.least)) inner in
        record_written s strict K S M step end p start stop a q bytes inside head shut w

-- items

within_found : {A : Type 0} (head i : ℕ) (x : Step A) (a : A) (q : ℕ) → within head i x ≡ found a q → x ≡ found a q
within_found head i (found b p) a q e = e
within_found head i (refused f) a q e = never e

within_is : {A : Type 0} (head i : ℕ) (x : Step A) (a : A) (q : ℕ) → x ≡ found a q → within head i x ≡ found a q
within_is head i x a q e = rw e refl

-- n items that stand one after the other
pub record WrittenItems {A T C : Type 0} (s : List ℕ) (strict : Bool) (K : Carrier T C) (G : List C → Shape T C) (M : List C → C → A → Type 0) (done : List C) (n end p : ℕ) (xs : List A) (q : ℕ) : Type 0 where
  pub trees : List T
  pub count : length trees ≡ n
  pub valid : ValidItems G done (map K.content trees)
  pub plain : strict ≡ true → Each K.Plain trees
  pub stands : Stands s p (render_items K G done trees)
  pub stop : q ≡ p + length (render_items K G done trees)
  pub fits : q ≤ end
  pub means : Means M (done ++ map K.content trees) xs

-- an item that stands before n others
items_written : {A T C : Type 0} (s : List ℕ) (strict : Bool) (K : Carrier T C) (G : List C → Shape T C) (M : List C → C → A → Type 0) (done : List C) (n end p p' : ℕ) (a : A) (xs : List A) (q : ℕ)
    → (one : Written s strict K (G done) (M done) end p a p') → WrittenItems s strict K G M (done ++ (K.content one.tree ∷ [])) n end p' xs q
    → WrittenItems s strict K G M done (suc n) end p xs q
items_written {C = C} s strict K G M done n end p p' a xs q one two =
    let c = K.content one.tree in
    let b₁ = (G done).render one.tree in
    let b₂ = render_items K G (done ++ (c ∷ [])) two.trees in
    let right : Stands s (p + length b₁) b₂ = subst (λ (y : ℕ). Stands s y b₂) one.stop two.stands in
    record {
      trees = one.tree ∷ two.trees;
      count = ap suc two.count;
      valid = (one.valid, two.valid);
      plain = λ e. (one.plain e, two.plain e);
      stands = stands_join b₁ b₂ one.stands right;
      stop = omega (arith, length-append b₁ b₂, one.stop, two.stop);
      fits = two.fits;
      means = subst (λ (l : List C). Means M l xs) (append_assoc done (c ∷ []) (map K.content two.trees)) two.means;
    }

-- an item, and those after it
items_read : {A : Type 0} (head : ℕ) (r : List A → Rule A) (n : ℕ) (before : List A) (c : List ℕ) (p : ℕ) (a : A) (p' : ℕ) (xs : List A) (q q' : ℕ)
    → r before c p ≡ found a p' → items head r n (before ++ (a ∷ [])) c p' ≡ found xs q → q ≡ q' → items head r (suc n) before c p ≡ found xs q'
unfolding items
items_read head r n before c p a p' xs q q' one later stop =
    ap (after (λ x. items head r n (before ++ (x ∷ []))) c) (within_is head (length before) (r before c p) a p' one) ∙ later ∙ ap (found xs) stop

module _ {A T C : Type 0} (s : List ℕ) (strict : Bool) (head : ℕ) (r : List A → Rule A) (K : Carrier T C) (G : List C → Shape T C) (M : List C → C → A → Type 0) (law : (done : List C) (before : List A) → Means M done before → Law s strict (r before) K (G done) (M done)) where
  items_complete : (ts : List T) (done : List C) (before : List A) → Means M done before → (end p : ℕ) → end ≤ length s
      → ValidItems G done (map K.content ts) → (strict ≡ true → Each K.Plain ts) → Stands s p (render_items K G done ts)
      → p + length (render_items K G done ts) ≤ end
      → Read (List C) (items head r (length ts) before (take end s) p) (p + length (render_items K G done ts)) (λ cs xs. Means M cs xs) (done ++ map K.content ts)
  unfolding items
  items_complete [] done before m end p inside valid plain stands fits = record { value = before; reads = rw (add-zero p) refl; means = rw append-nil m }
  items_complete (t ∷ ts) done before m end p inside valid plain stands fits =
      let c = K.content t in
      let b₁ = (G done).render t in
      let b₂ = render_items K G (done ++ (c ∷ [])) ts in
      let long = length-append b₁ b₂ in
      let one = (law done before m).complete end p t inside valid.0 (λ e. (plain e).0) (stands_left b₁ b₂ stands) (omega arith) in
      let two = items_complete ts (done ++ (c ∷ [])) (before ++ (one.value ∷ [])) (more m one.means) end (p + length b₁) inside valid.1 (λ e. (plain e).1) (stands_right b₁ b₂ stands) (omega arith) in
      let stop : p + length b₁ + length b₂ ≡ p + length (b₁ ++ b₂) = omega arith in
      record {
        value = two.value;
        reads = items_read head r (length ts) before (take end s) p one.value (p + length b₁) two.value (p + length b₁ + length b₂) _ one.reads two.reads stop;
        means = subst (λ (l : List C). Means M l two.value) (append_assoc done (c ∷ []) (map K.content ts)) two.means;
      }

  items_sound : (n : ℕ) (done : List C) (before : List A) → Means M done before → (end p : ℕ) (xs : List A) (q : ℕ) → Bytes s → 0 < end → end ≤ length s
      → p ≤ end → items head r n before (take end s) p ≡ found xs q → WrittenItems s strict K G M done n end p xs q
  unfolding items
  items_sound zero done before m end p xs q bytes some inside at reads =
      let same : before ≡ xs = cc in
      let stop : q ≡ p = cc in
      record {
        trees = [];
        count = refl;
        valid = tt;
        plain = λ _. tt;
        stands = stands_none s p;
        stop = rw (add-zero p) stop;
        fits = omega arith;
        means = rw append-nil (rw same at m);
      }
  items_sound (suc n) done before m end p xs q bytes some inside at reads =
      let (a, p', r₁, r₂) = after_found (λ x. items head r n (before ++ (x ∷ []))) (take end s) (within head (length before) (r before (take end s) p)) xs q reads in
      let one = (law done before m).sound end p a p' bytes some inside at (within_found head (length before) (r before (take end s) p) a p' r₁) in
      let two = items_sound n (done ++ (K.content one.tree ∷ [])) (before ++ (a ∷ [])) (more m one.means) end p' xs q bytes some inside one.fits r₂ in
      items_written s strict K G M done n end p p' a xs q one two

-- a list frame's head

pub list_count_is : (s : List ℕ) (end p n count : ℕ) → end ≤ length s → little 4 s p ≡ 2 ^ 32 - n → little 4 s (p + 4) ≡ count → n < 2 ^ 31 → 8 ≤ n
    → count < 2 ^ 28 → p + n ≤ end → list_count (take end s) p (list_stop (take end s) p) ≡ found (record { count = count; start = p + 8 }) (p + n)
unfolding list_stop frame_size
list_count_is s end p n count inside there there' small big few fits =
    let whole = container_long s end inside in
    let w₁ : little 4 (take end s) p ≡ 2 ^ 32 - n = little_container s end inside 4 p (omega arith) ∙ there in
    let w₂ : little 4 (take end s) (p + 4) ≡ count = little_container s end inside 4 (p + 4) (omega arith) ∙ there' in
    let back : 2 ^ 32 - (2 ^ 32 - n) ≡ n = omega arith in
    let a : leb (p + 4) (length (take end s)) ≡ true = le-leb (p + 4) (length (take end s)) (omega arith) in
    let b : ltb (2 ^ 32 - n) (2 ^ 31) ≡ false = le-ltb (2 ^ 32 - n) (2 ^ 31) (omega arith) in
    let c : leb 8 n ≡ true = le-leb 8 n big in
    let d : leb (p + n) (length (take end s)) ≡ true = le-leb (p + n) (length (take end s)) (omega arith) in
    let e : ltb count (2 ^ 28) ≡ true = lt-ltb count (2 ^ 28) few in
    rw (w₁, a, b, back, c, d, w₂, e) refl

list_head_complete : (verdict : ℕ → ℕ) (s : List ℕ) (end p n count : ℕ) → end ≤ length s → little 4 s p ≡ 2 ^ 32 - n → little 4 s (p + 4) ≡ count
    → n < 2 ^ 31 → 8 ≤ n → count < 2 ^ 28 → verdict count ≡ 0 → p + n ≤ end
    → list_head verdict (take end s) p ≡ found (record { count = count; start = p + 8 }) (p + n)
unfolding count_judged
list_head_complete verdict s end p n count inside there there' small big few good fits =
    let f : eqb (verdict count) 0 ≡ true = eq-eqb (verdict count) 0 good in
    ap (count_judged verdict p) (list_count_is s end p n count inside there there' small big few fits) ∙ rw f refl

record ListHead (verdict : ℕ → ℕ) (s : List ℕ) (end p count start stop : ℕ) : Type 0 where
  head : p + 8 ≤ end
  least : 8 ≤ 2 ^ 32 - little 4 s p
  most : 2 ^ 32 - little 4 s p ≤ 2 ^ 31
  counts : count ≡ little 4 s (p + 4)
  few : count < 2 ^ 28
  good : verdict count ≡ 0
  starts : start ≡ p + 8
  stops : stop ≡ p + (2 ^ 32 - little 4 s p)
  fits : stop ≤ end

count_judged_lem : (verdict : ℕ → ℕ) (p : ℕ) (x : Step Head) (h : Head) (stop : ℕ) → count_judged verdict p x ≡ found h stop
    → (x ≡ found h stop) × (verdict h.count ≡ 0)
unfolding count_judged
count_judged_lem verdict p (found g q) h stop e =
    let (good, same) = pick_found (eqb (verdict g.count) 0) _ _ h stop e in
    let value : g ≡ h = cc in
    (same, ap (λ (x : Head). verdict x.count) (sym value) ∙ eqb-true (verdict g.count) 0 good)
count_judged_lem verdict p (refused f) h stop e = never e

list_counted : (c : List ℕ) (p : ℕ) (x : Step ℕ) (h : Head) (stop : ℕ) → list_count c p x ≡ found h stop
    → (start : ℕ) × (x ≡ found start stop) × (h.start ≡ start) × (h.count ≡ little 4 c (p + 4)) × (little 4 c (p + 4) < 2 ^ 28)
list_counted c p (found start q) h stop e =
    let (few, same) = pick_found (ltb (little 4 c (p + 4)) (2 ^ 28)) _ _ h stop e in
    let value : record { count = little 4 c (p + 4); start = start } ≡ h = cc in
    let stops : q ≡ stop = cc in
    (start, ap (found start) stops, ap (λ (x : Head). x.start) (sym value), ap (λ (x : Head). x.count) (sym value), ltb-true (little 4 c (p + 4)) (2 ^ 28) few)
list_counted c p (refused f) h stop e = never e

list_stopped : (c : List ℕ) (p start stop : ℕ) → list_stop c p ≡ found start stop
    → (p + 4 ≤ length c) × (2 ^ 31 ≤ little 4 c p) × (8 ≤ 2 ^ 32 - little 4 c p) × (p + (2 ^ 32 - little 4 c p) ≤ length c) × (start ≡ p + 8)
    × (stop ≡ p + (2 ^ 32 - little 4 c p))
unfolding list_stop frame_size
list_stopped c p start stop e =
    let (a, e₁) = pick_found (leb (p + 4) (length c)) _ _ start stop e in
    let (most, least, fits, starts, stops) = list_size (little 4 c p) (ltb (little 4 c p) (2 ^ 31)) refl c p start stop e₁ in
    (leb-true (p + 4) (length c) a, most, least, fits, starts, stops)

list_head_sound : (verdict : ℕ → ℕ) (s : List ℕ) (end p : ℕ) (h : Head) (stop : ℕ) → end ≤ length s → list_head verdict (take end s) p ≡ found h stop
    → ListHead verdict s end p h.count h.start stop
list_head_sound verdict s end p h stop inside e =
    let c = take end s in
    let whole = container_long s end inside in
    let (e₁, good) = count_judged_lem verdict p (list_count c p (list_stop c p)) h stop e in
    let (start, e₂, starts', counts', few) = list_counted c p (list_stop c p) h stop e₁ in
    let (room, most, least, fits, starts, stops) = list_stopped c p start stop e₂ in
    let w₁ : little 4 c p ≡ little 4 s p = little_container s end inside 4 p (omega arith) in
    let w₂ : little 4 c (p + 4) ≡ little 4 s (p + 4) = little_container s end inside 4 (p + 4) (omega arith) in
    let counts : h.count ≡ little 4 s (p + 4) = counts' ∙ w₂ in
    record {
      head = omega arith;
      least = omega arith;
      most = omega arith;
      counts = counts;
      few = omega arith;
      good = good;
      starts = starts' ∙ starts;
      stops = omega arith;
      fits = omega arith;
    }

-- a list frame

-- around the items that stand in it
list_written : {A T C : Type 0} (s : List ℕ) (strict : Bool) (verdict : ℕ → ℕ) (K : Carrier T C) (G : ℕ → List C → Shape T C) (M : List C → C → A → Type 0) (x : Step (List A)) (end p count start stop : ℕ) (xs : List A) (q : ℕ)
    → Bytes s → end ≤ length s → length s < 2 ^ 31 → ListHead verdict s end p count start stop → (shut : Closed strict stop x xs q)
    → WrittenItems s strict K (G count) M [] count stop (p + 8) xs shut.place
    → Written s strict (list_carrier K) (list_shape K verdict G) (λ cs ys. Means M cs ys) end p xs q
list_written s strict verdict K G M x end p count start stop xs q bytes inside small head shut w =
    let ts = w.trees in
    let n = length ts in
    let inner = render_items K (G n) [] ts in
    let same : n ≡ count = w.count in
    let within : stop ≤ length s = omega (arith, head.fits) in
    let spare = spare_of s shut.place stop in
    let spare_length : length spare ≡ stop - shut.place = spare_long s shut.place stop within w.fits in
    let body = inner ++ spare in
    let long' = length-append inner spare in
    let inner_stands : Stands s (p + 8) inner = rw same w.stands in
    let inner_stop : shut.place ≡ p + 8 + length inner = rw same w.stop in
    let size : 8 + length body ≡ 2 ^ 32 - little 4 s p = omega (arith, head.stops, head.least, w.fits) in
    let bound = little_bound 4 s p bytes in
    let word : 2 ^ 32 - (8 + length body) ≡ little 4 s p = omega (arith) in
    let long₁ = length_spelled 4 (2 ^ 32 - (8 + length body)) in
    let long₂ = length_spelled 4 n in
    let b₁ = spelled 4 (2 ^ 32 - (8 + length body)) in
    let b₂ = spelled 4 n in
    let first : Stands s p b₁ = rw word (spelled_little 4 s p bytes (omega (arith, head.head))) in
    let second : Stands s (p + length b₁) b₂ = rw (long₁, same, head.counts) (spelled_little 4 s (p + 4) bytes (omega (arith, head.head))) in
    let right : Stands s (p + 8 + length inner) spare = subst (λ (y : ℕ). Stands s y spare) inner_stop (spare_stands s shut.place stop) in
    let third : Stands s (p + 8) body = stands_join inner spare inner_stands right in
    let place : p + length b₁ + length b₂ ≡ p + 8 = omega arith in
    let rest : Stands s (p + length b₁) (b₂ ++ body) = stands_join b₂ body second (rw place third) in
    let count' : length (map K.content ts) ≡ count = length-map ts K.content ∙ same in
    record {
      tree = record { inside = ts; spare = spare };
      valid = rw count' (head.few, head.good, w.valid);
      plain = λ e. (w.plain e, spare_none s shut.place stop (shut.full e));
      stands = stands_join b₁ (b₂ ++ body) first rest;
      stop = omega (arith, shut.stops, head.stops, length-append b₁ (b₂ ++ body), length-append b₂ body);
      fits = omega (arith, shut.stops, head.fits);
      means = w.means;
    }

-- a list frame is read as its items are
list_reads : {A : Type 0} (strict : Bool) (verdict : ℕ → ℕ) (r : ℕ → List A → Rule A) (s : List ℕ) (end p n start stop : ℕ) (xs : List A) (q stop' : ℕ)
    → list_head verdict (take end s) p ≡ found (record { count = n; start = start }) stop → take stop (take end s) ≡ take stop s
    → items p (r n) n [] (take stop s) start ≡ found xs q → (strict ≡ true → stop ≤ q) → stop ≡ stop' → list_of strict verdict r (take end s) p ≡ found xs stop'
unfolding list_of
list_reads strict verdict r s end p n start stop xs q stop' head frame inner full stops =
    ap (list_body strict r (take end s) p) head ∙ ap (λ (c : List ℕ). closed_by (in_item p n) strict stop (items p (r n) n [] c start)) frame
    ∙ ap (closed_by (in_item p n) strict stop) inner ∙ closed_complete (in_item p n) strict stop xs q full ∙ ap (found xs) stops

pub list_law : {A T C : Type 0} (s : List ℕ) (strict : Bool) (verdict : ℕ → ℕ) (r : ℕ → List A → Rule A) (K : Carrier T C) (G : ℕ → List C → Shape T C) (M : List C → C → A → Type 0)
    → length s < 2 ^ 31 → ((n : ℕ) (done : List C) (before : List A) → Means M done before → Law s strict (r n before) K (G n done) (M done))
    → Law s strict (list_of strict verdict r) (list_carrier K) (list_shape K verdict G) (λ cs xs. Means M cs xs)
unfolding list_of
list_law {A} s strict verdict r K G M small law =
    record {
      complete = λ end p f inside valid plain stands fits.
          let ts = f.inside in
          let n = length ts in
          let same : length (map K.content ts) ≡ n = length-map ts K.content in
          let (few, good, each) = rw same at valid in
          let inner = render_items K (G n) [] ts in
          let body = inner ++ f.spare in
          let size = 8 + length body in
          let b₁ = spelled 4 (2 ^ 32 - size) in
          let b₂ = spelled 4 n in
          let long₁ = length_spelled 4 (2 ^ 32 - size) in
          let long₂ = length_spelled 4 n in
          let long₃ = length-append b₁ (b₂ ++ body) in
          let long₄ = length-append b₂ body in
          let long₅ = length-append inner f.spare in
          let there : little 4 s p ≡ 2 ^ 32 - size = little_spelled 4 (2 ^ 32 - size) (omega arith) (stands_left b₁ (b₂ ++ body) stands) in
          let second : Stands s (p + 4) (b₂ ++ body) = rw long₁ at (stands_right b₁ (b₂ ++ body) stands) in
          let there' : little 4 s (p + 4) ≡ n = little_spelled 4 n (omega arith) (stands_left b₂ body second) in
          let head : list_head verdict (take end s) p ≡ found (record { count = n; start = p + 8 }) (p + size) = list_head_complete verdict s end p size n inside there there' (omega arith) (omega arith) few good (omega arith) in
          let place : p + 4 + length b₂ ≡ p + 8 = omega arith in
          let third : Stands s (p + 8) body = rw place at (stands_right b₂ body second) in
          let read = items_complete s strict p (r n) K (G n) M (law n) ts [] [] none (p + size) (p + 8) (omega arith) each (λ e. (plain e).0) (stands_left inner f.spare third) (omega arith) in
          let full : strict ≡ true → p + size ≤ p + 8 + length inner = λ e. omega (arith, ap length (plain e).1) in
          let stop : p + size ≡ p + length (b₁ ++ (b₂ ++ body)) = omega arith in
          let frame : take (p + size) (take end s) ≡ take (p + size) s = container_in s end inside (p + size) (omega arith) in
          record {
            value = read.value;
            reads = list_reads strict verdict r s end p n (p + 8) (p + size) read.value (p + 8 + length inner) _ head frame read.reads full stop;
            means = read.means;
          };
      sound = λ end p xs q bytes some inside at reads. go end p xs q bytes inside (list_head verdict (take end s) p) refl reads;
    }
  where
    go : (end p : ℕ) (xs : List A) (q : ℕ) → Bytes s → end ≤ length s → (h : Step Head) → list_head verdict (take end s) p ≡ h
        → list_body strict r (take end s) p h ≡ found xs q → Written s strict (list_carrier K) (list_shape K verdict G) (λ cs ys. Means M cs ys) end p xs q
    go end p xs q bytes inside (refused f) e reads = never reads
    go end p xs q bytes inside (found h stop) e reads =
        let n = h.count in
        let head = list_head_sound verdict s end p h stop inside e in
        let step = items p (r n) n [] (take stop (take end s)) h.start in
        let shut = closed_sound (in_item p n) strict stop step xs q reads in
        let frame : take stop (take end s) ≡ take stop s = container_in s end inside stop head.fits in
        let inner : items p (r n) n [] (take stop s) (p + 8) ≡ found xs shut.place = sym (λ i. items p (r n) n [] (frame i) (head.starts i)) ∙ shut.inner in
        let w = items_sound s strict p (r n) K (G n) M (law n) n [] [] none stop (p + 8) xs shut.place bytes (omega (arith, head.stops, head.least)) (omega (arith, head.fits)) (omega (arith, head.stops, head.least)) inner in
        list_written s strict verdict K G M step end p n h.start stop xs q bytes inside small head shut w

-- items whose meaning does not hang on those before them

means_map : {A C : Type 0} {f : A → C} {cs : List C} {xs : List A} → Means (λ done c a. f a ≡ c) cs xs → map f xs ≡ cs
means_map none = refl
means_map {f = f} (more {cs = cs} {xs = xs} {c = c} {x = x} m e) = map-append f xs (x ∷ []) ∙ ap (λ (l : List _). l ++ (f x ∷ [])) (means_map m) ∙ ap (λ y. cs ++ (y ∷ [])) e

-- a list of record frames whose rows are read by a rule that may hang on the count
pub records_law : {A C : Type 0} (s : List ℕ) (strict : Bool) (verdict : ℕ → ℕ) (r : ℕ → Rule A) (G : ℕ → Shape C C) (f : A → C) → length s < 2 ^ 31
    → ((n : ℕ) → Law s strict (r n) bare (G n) (λ c a. f a ≡ c))
    → Law s strict (list_of strict verdict (λ n _. record_of strict (r n))) (list_carrier (framed bare)) (list_shape (framed bare) verdict (λ n _. record_shape (G n))) (λ cs xs. map f xs ≡ cs)
records_law s strict verdict r G f small law =
    meant (λ cs xs m. means_map m)
    (list_law s strict verdict (λ n _. record_of strict (r n)) (framed bare) (λ n _. record_shape (G n)) (λ done c a. f a ≡ c) small
    (λ n done before m. record_law s strict (r n) bare (G n) (λ c a. f a ≡ c) small (law n)))
