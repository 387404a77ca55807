-- Laws of frames and lists, which the proofs of this crate and of those above it cite.
use Prim.Native.Nat.{ℕ, ◌+◌, ◌-◌, ◌^◌, ◌≤◌}
use mathlib.Core.Path.{◌≡◌, refl, sym}
use mathlib.Core.Bool.{Bool, true, false}
use mathlib.Core.List.{List}
use native.Mathlib.Omega.{arith}
use lib.ListN.{length, take}
use lib.Dec.{leb, ltb, eqb}
use borrow.Author.Tests.{leb-true, eqb-true}
use Rattle.numbers.specs.Choice.{pick}
use Rattle.numbers.specs.Numbers.{little, little_in}
use Rattle.wire.specs.declared.Fault.{Fault}
use Rattle.wire.specs.declared.Kind.TheVariants.{Frame, Spare}
use Rattle.frames.specs.declared.ListHead.{ListHead}
use Rattle.frames.specs.declared.FrameSize.{FrameSize}
use Rattle.frames.specs.declared.FrameSize.TheVariants.{RecordSize, ListSize}
use Rattle.wire.specs.Reading.{Step, found, refused, Rule, mapped, fault, counted}
use Rattle.frames.specs.Frames.{frame_size, record_end, record_head, record_of, list_end, list_stop, count_judged, closed_by, closed, spare, at_most}
use Rattle.wire.proofs.Laws.{never, passed, pick_found}

-- a record's head that was found: it is there, its content starts behind it, and the record stops where its size says
pub head_found : (s : List ℕ) (at : ℕ) {start stop : ℕ} → record_head s at ≡ found start stop → (at + 4 ≤ length s) × (start ≡ at + 4) × (stop ≡ at + little_in 4 s at)
unfolding record_head little_in frame_size
head_found s at {start} {stop} e =
    let (room, g) = pick_found (leb (at + 4) (length s)) _ _ start stop e in
    let (starts, stops) = sized (little 4 s at) (ltb (little 4 s at) (2 ^ 31)) g in
    (leb-true (at + 4) (length s) room, starts, rw room stops)
  where
    sized : (word : ℕ) (b : Bool) → record_end s at (pick b (RecordSize word) (ListSize (2 ^ 32 - word))) ≡ found start stop → (start ≡ at + 4) × (stop ≡ at + word)
    sized word true g =
        let (_, e₁) = pick_found (leb 4 word) _ _ start stop g in
        let (_, e₂) = pick_found (leb (at + word) (length s)) _ _ start stop e₁ in
        (cc, cc)
    sized word false g = never g

-- a step that is found has at least 8 bytes from a place on
abbrev pub Eight : List ℕ → ℕ → Step ℕ → Type 0
Eight s at (found a p) = at + 8 ≤ length s
Eight s at (refused f) = Unit {0}

list_eight : (s : List ℕ) (at : ℕ) → Eight s at (list_stop s at)
unfolding list_stop
list_eight s at = outer (leb (at + 4) (length s))
  where
    inner : (size : ℕ) (b d : Bool) → leb 8 size ≡ b → leb (at + size) (length s) ≡ d
        → Eight s at (pick b (pick d (found (at + 8) (at + size)) (refused (fault 7 Frame at))) (refused (fault 8 Frame at)))
    inner size true true p q = omega (arith, leb-true 8 size p, leb-true (at + size) (length s) q)
    inner size true false p q = tt
    inner size false d p q = tt

    sized : (size : FrameSize) → Eight s at (list_end s at size)
    sized (RecordSize n) = tt
    sized (ListSize n) = inner n (leb 8 n) (leb (at + n) (length s)) refl refl

    outer : (b : Bool) → Eight s at (pick b (list_end s at (frame_size (little 4 s at))) (refused (fault 7 Frame at)))
    outer true = sized (frame_size (little 4 s at))
    outer false = tt

pub list_room : (s : List ℕ) (at : ℕ) {start stop : ℕ} → list_stop s at ≡ found start stop → at + 8 ≤ length s
list_room s at e = rw e at (list_eight s at)

-- counting and closing commute
pub counted_closed : {A : Type 0} (mark : Fault → Fault) (strict : Bool) (stop : ℕ) (x : Step (List A)) → counted (closed_by mark strict stop x) ≡ closed_by mark strict stop (counted x)
counted_closed mark strict stop (found rows p) = by (spare strict p stop)
  where
    by : (b : Bool) → counted (pick b (refused (mark (fault 11 Spare p))) (found rows stop)) ≡ pick b (refused (mark (fault 11 Spare p))) (found (length rows) stop)
    by true = refl
    by false = refl
counted_closed mark strict stop (refused f) = refl

-- a content whose container was closed
pub record Closed {A : Type 0} (x : Step A) (a : A) : Type 0 where
  pub end : ℕ
  pub was : x ≡ found a end

pub closed_found : {A : Type 0} (mark : Fault → Fault) (strict : Bool) (stop : ℕ) (x : Step A) {a : A} {p : ℕ} → closed_by mark strict stop x ≡ found a p → Closed x a
closed_found {A} mark strict stop (found b q) {a} {p} e = by (spare strict q stop) e
  where
    by : (t : Bool) → pick {A = Step A} t (refused (mark (fault 11 Spare q))) (found b stop) ≡ found a p → Closed (found b q) a
    by true g = never g
    by false g = record { end = q; was = cc }
closed_found mark strict stop (refused f) e = never e

-- a count that was found has passed its verdict
pub count_zero : (verdict : ℕ → ℕ) (at : ℕ) (x : Step ListHead) {h : ListHead} {p : ℕ} → count_judged verdict at x ≡ found h p → verdict h.count ≡ 0
unfolding count_judged
count_zero verdict at (found v q) {h} {p} e = by (eqb (verdict v.count) 0) refl e
  where
    by : (b : Bool) → eqb (verdict v.count) 0 ≡ b → pick {A = Step ListHead} b (found v q) (refused (fault (verdict v.count) Frame at)) ≡ found h p → verdict h.count ≡ 0
    by true g w = let same : v ≡ h = cc in rw same at (eqb-true (verdict v.count) 0 g)
    by false g w = never w
count_zero verdict at (refused f) e = never e

pub count_most : (most at : ℕ) {h : ListHead} {p : ℕ} (x : Step ListHead) → count_judged (at_most most) at x ≡ found h p → h.count ≤ most
count_most most at {h} x e = leb-true h.count most (passed (leb h.count most) 9 0 (count_zero (at_most most) at x e)).0

-- changing the value and closing commute
pub mapped_closed : {A B : Type 0} (f : A → B) (mark : Fault → Fault) (strict : Bool) (stop : ℕ) (x : Step A) → mapped f (closed_by mark strict stop x) ≡ closed_by mark strict stop (mapped f x)
mapped_closed {A} {B} f mark strict stop (found a p) = by (spare strict p stop)
  where
    by : (b : Bool) → mapped f (pick {A = Step A} b (refused (mark (fault 11 Spare p))) (found a stop)) ≡ pick {A = Step B} b (refused (mark (fault 11 Spare p))) (found (f a) stop)
    by true = refl
    by false = refl
mapped_closed f mark strict stop (refused g) = refl

-- a verdict that was reached on the count that was read
pub count_read : (verdict : ℕ → ℕ) (at : ℕ) {x : Step ListHead} {h : ListHead} {p w : ℕ} → x ≡ found h p → w ≡ verdict h.count → count_judged (λ _. w) at (found h p) ≡ count_judged verdict at x
unfolding count_judged
count_read verdict at e is = rw (e, is)

pub count_missing : (verdict : ℕ → ℕ) (at : ℕ) {x : Step ListHead} {f : Fault} → x ≡ refused f → refused f ≡ count_judged verdict at x
unfolding count_judged
count_missing verdict at e = rw e

-- a content whose end was judged apart: the place after its frame, or the refusal, marked

pub ended : {A : Type 0} (mark : Fault → Fault) (strict : Bool) (p stop : ℕ) (a : A) {q : ℕ} → ◌≡◌ {A = Step (Unit {0})} (found tt q) (closed strict stop (found tt p)) → closed_by mark strict stop (found a p) ≡ found a q
ended {A} mark strict p stop a {q} e = by (spare strict p stop) e
  where
    by : (b : Bool) → found tt q ≡ pick {A = Step (Unit {0})} b (refused (fault 11 Spare p)) (found tt stop) → pick {A = Step A} b (refused (mark (fault 11 Spare p))) (found a stop) ≡ found a q
    by true g = never (sym g)
    by false g = cc

pub spared : {A : Type 0} (mark : Fault → Fault) (strict : Bool) (p stop : ℕ) (a : A) {f : Fault} → ◌≡◌ {A = Step (Unit {0})} (refused f) (closed strict stop (found tt p)) → closed_by mark strict stop (found a p) ≡ refused (mark f)
spared {A} mark strict p stop a {f} e = by (spare strict p stop) e
  where
    by : (b : Bool) → refused f ≡ pick {A = Step (Unit {0})} b (refused (fault 11 Spare p)) (found tt stop) → pick {A = Step A} b (refused (mark (fault 11 Spare p))) (found a stop) ≡ refused (mark f)
    by true g = let same : f ≡ fault 11 Spare p = cc in rw same
    by false g = never g

-- a record, by what was read of it: its head, its content in the bytes up to its end, and the end of its frame
module _ {A : Type 0} (strict : Bool) (r : Rule A) (s : List ℕ) (at : ℕ) where
  pub record_refused : {f : Fault} → record_head s at ≡ refused f → refused f ≡ record_of strict r s at
  unfolding record_of
  record_refused e = rw e

  module _ {start stop : ℕ} {inner : List ℕ} (head : record_head s at ≡ found start stop) (cut : inner ≡ take stop s) where
    pub record_content : record_of strict r s at ≡ closed strict stop (r inner start)
    unfolding record_of
    record_content = rw (head, cut)

    pub content_refused : {f : Fault} → r inner start ≡ refused f → refused f ≡ record_of strict r s at
    content_refused e = rw (record_content, e)

    pub record_ended : {a : A} {past q : ℕ} → r inner start ≡ found a past → ◌≡◌ {A = Step (Unit {0})} (found tt q) (closed strict stop (found tt past)) → found a q ≡ record_of strict r s at
    record_ended {a} {past} e done = rw (record_content, e) (sym (ended (λ f. f) strict past stop a done))

    pub record_spared : {a : A} {past : ℕ} {f : Fault} → r inner start ≡ found a past → ◌≡◌ {A = Step (Unit {0})} (refused f) (closed strict stop (found tt past)) → refused f ≡ record_of strict r s at
    record_spared {a} {past} e spare = rw (record_content, e) (sym (spared (λ f. f) strict past stop a spare))
