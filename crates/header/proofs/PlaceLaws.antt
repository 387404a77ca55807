-- The records of a list that was found stand one after the other, each where the sizes of those before it say.
use Prim.Native.Nat.{ℕ, zero, suc, ◌+◌, ◌^◌, ◌<◌}
use mathlib.Core.Path.{◌≡◌, refl, sym, ap, subst, ◌∙◌}
use mathlib.Core.Bool.{Bool, true, false}
use mathlib.Core.List.{List, [], ◌∷◌, ◌++◌, append_assoc, append-nil}
use native.Mathlib.Nat.{zero-add}
use native.Mathlib.Numerals.{add-one}
use native.Mathlib.Omega.{arith}
use lib.Dec.{leb, ltb, eqb}
use lib.ListN.{length, get_or, take, length-append}
use Rattle.numbers.specs.Choice.{pick}
use Rattle.numbers.specs.Numbers.{little, little_in}
use Rattle.wire.specs.declared.Fault.{Fault}
use Rattle.wire.specs.declared.Kind.TheVariants.{Frame, Spare}
use Rattle.wire.specs.Reading.{Step, found, refused, Rule, fault, in_item, after, accepted}
use Rattle.wire.proofs.Laws.{never}
use Rattle.frames.specs.Frames.{frame_size, record_head, record_body, record_of, closed_by, spare, within, items, list_of, list_head, list_count, list_end, list_stop, count_judged, at_most}
use Rattle.frames.specs.declared.ListHead.{ListHead}
use Rattle.frames.specs.declared.FrameSize.{FrameSize}
use Rattle.frames.specs.declared.FrameSize.TheVariants.{RecordSize, ListSize}
use Rattle.frames.proofs.Laws.{head_found, closed_found}
use Rattle.frames.proofs.Loops.{list_is, list_count_lem}
use Rattle.frames.proofs.Cut.{record_cut}
use Rattle.records.specs.Records.{field}
use Rattle.rows.specs.Words.{most_fields}
use Rattle.header.specs.Header.{field_list}
use Rattle.header.specs.Tables.{record_at}
use Rattle.header.specs.Statements.{RecordPlaces}

-- a record stops where its size says

closed_stop : {A : Type 0} (mark : Fault → Fault) (strict : Bool) (stop : ℕ) (x : Step A) {a : A} {p : ℕ} → closed_by mark strict stop x ≡ found a p → p ≡ stop
closed_stop {A} mark strict stop (found b q) {a} {p} e = by (spare strict q stop) e
  where
    by : (t : Bool) → pick {A = Step A} t (refused (mark (fault 11 Spare q))) (found b stop) ≡ found a p → p ≡ stop
    by true g = never g
    by false g = cc
closed_stop mark strict stop (refused f) e = never e

record_stop : {A : Type 0} (strict : Bool) (r : Rule A) (s : List ℕ) (at : ℕ) {x : A} {q : ℕ} → record_of strict r s at ≡ found x q → q ≡ at + little_in 4 s at
unfolding record_of
record_stop strict r s at {x} {q} e = by (record_head s at) refl e
  where
    by : (h : Step ℕ) → record_head s at ≡ h → record_body strict r s h ≡ found x q → q ≡ at + little_in 4 s at
    by (found start stop) g w = closed_stop (λ f. f) strict stop (r (take stop s) start) w ∙ (head_found s at g).2
    by (refused f) g w = never w

-- the items that are done come first among all
module _ {A : Type 0} (head : ℕ) (r : List A → Rule A) (s : List ℕ) {rows : List A} {p : ℕ} where
  items_first : (n : ℕ) (done : List A) (at : ℕ) → items head r n done s at ≡ found rows p → (rest : List A) × (rows ≡ done ++ rest)
  unfolding items
  items_first zero done at e = let same : done ≡ rows = cc in ([], sym same ∙ sym (append-nil done))
  items_first (suc n) done at e = by (items_first n) (r done s at) e
    where
      by : ((done : List A) (at : ℕ) → items head r n done s at ≡ found rows p → (rest : List A) × (rows ≡ done ++ rest)) → (x : Step A)
          → after (λ x. items head r n (done ++ (x ∷ []))) s (within head (length done) x) ≡ found rows p → (rest : List A) × (rows ≡ done ++ rest)
      by more (found x q) g = let t = more (done ++ (x ∷ [])) q g in (x ∷ t.0, t.1 ∙ append_assoc done (x ∷ []) t.0)
      by more (refused f) g = never g

at_end : {A : Type 0} (done : List A) (x : A) (rest : List A) (other : A) → get_or ((done ++ (x ∷ [])) ++ rest) (length done) other ≡ x
at_end [] x rest other = refl
at_end (y ∷ done) x rest other = at_end done x rest other

-- items that are records, in bytes that are cut off
module _ {A : Type 0} (strict : Bool) (r : Rule A) (head stop : ℕ) (s : List ℕ) (other : A) {rows : List A} {p : ℕ} where
  items_places : (n : ℕ) (done : List A) (at : ℕ) → items head (λ _. record_of strict r) n done (take stop s) at ≡ found rows p
      → (k : ℕ) → k < n → record_of strict r s (record_at s at k) ≡ found (get_or rows (length done + k) other) (record_at s at (suc k))
  unfolding items record_at
  items_places zero done at e k h = absurd (omega arith)
  items_places (suc n) done at e k h = by (items_places n) (record_of strict r (take stop s) at) refl e k h
    where
      by : ((done : List A) (at : ℕ) → items head (λ _. record_of strict r) n done (take stop s) at ≡ found rows p
          → (k : ℕ) → k < n → record_of strict r s (record_at s at k) ≡ found (get_or rows (length done + k) other) (record_at s at (suc k)))
          → (x : Step A) → record_of strict r (take stop s) at ≡ x → after (λ x. items head (λ _. record_of strict r) n (done ++ (x ∷ []))) (take stop s) (within head (length done) x) ≡ found rows p
          → (k : ℕ) → k < suc n → record_of strict r s (record_at s at k) ≡ found (get_or rows (length done + k) other) (record_at s at (suc k))
      by more (found x q) g w zero l =
          let here = record_cut s stop at strict r g in
          let next = record_stop strict r s at here in
          let t = items_first head (λ _. record_of strict r) (take stop s) n (done ++ (x ∷ [])) q w in
          let index : length done + 0 ≡ length done = omega arith in
          let row : get_or rows (length done + 0) other ≡ x = ap (λ (i : ℕ). get_or rows i other) index ∙ ap (λ (l : List A). get_or l (length done) other) t.1 ∙ at_end done x t.0 other in
          here ∙ ap (λ (y : A). found y q) (sym row) ∙ ap (found (get_or rows (length done + 0) other)) next
      by more (found x q) g w (suc k) l =
          let next = record_stop strict r s at (record_cut s stop at strict r g) in
          let index : length (done ++ (x ∷ [])) + k ≡ length done + suc k = let a = length-append done (x ∷ []) in omega arith in
          let later = more (done ++ (x ∷ [])) q w k (omega arith) in
          subst (λ (a : ℕ). record_of strict r s (record_at s a k) ≡ found (get_or rows (length done + suc k) other) (record_at s a (suc k))) next
          (subst (λ (i : ℕ). record_of strict r s (record_at s q k) ≡ found (get_or rows i other) (record_at s q (suc k))) index later)
      by more (refused f) g w k l = never w

-- the items of a list start 8 bytes after its place
list_start : (verdict : ℕ → ℕ) (s : List ℕ) (at : ℕ) {h : ListHead} {stop : ℕ} → list_head verdict s at ≡ found h stop → h.start ≡ at + 8
unfolding count_judged list_stop
list_start verdict s at {h} {stop} e = by (leb (at + 4) (length s)) e
  where
    counted : (b : Bool) (n start q : ℕ) → count_judged verdict at (pick {A = Step ListHead} b (found (record { count = n; start = start }) q) (refused (fault 8 Frame at))) ≡ found h stop → h.start ≡ start
    counted true n start q g = judged (eqb (verdict n) 0) g
      where
        judged : (b : Bool) → pick {A = Step ListHead} b (found (record { count = n; start = start }) q) (refused (fault (verdict n) Frame at)) ≡ found h stop → h.start ≡ start
        judged true w = let same : ◌≡◌ {A = ListHead} (record { count = n; start = start }) h = cc in sym (ap (λ (x : ListHead). x.start) same)
        judged false w = never w
    counted false n start q g = never g

    room : (size : ℕ) (b d : Bool) → count_judged verdict at (list_count s at (pick {A = Step ℕ} b (pick d (found (at + 8) (at + size)) (refused (fault 7 Frame at))) (refused (fault 8 Frame at)))) ≡ found h stop → h.start ≡ at + 8
    room size true true g = counted (ltb (little 4 s (at + 4)) (2 ^ 28)) (little 4 s (at + 4)) (at + 8) (at + size) g
    room size true false g = never g
    room size false d g = never g

    sized : (size : FrameSize) → count_judged verdict at (list_count s at (list_end s at size)) ≡ found h stop → h.start ≡ at + 8
    sized (RecordSize n) g = never g
    sized (ListSize n) g = room n (leb 8 n) (leb (at + n) (length s)) g

    by : (b : Bool) → count_judged verdict at (list_count s at (pick {A = Step ℕ} b (list_end s at (frame_size (little 4 s at))) (refused (fault 7 Frame at)))) ≡ found h stop → h.start ≡ at + 8
    by true g = sized (frame_size (little 4 s at)) g
    by false g = never g

pub record_places : RecordPlaces
unfolding list_of
record_places strict s at rows p e k other l = by (list_head (at_most most_fields) s at) refl
  where
    by : (x : Step ListHead) → list_head (at_most most_fields) s at ≡ x → record_of strict (field (length rows)) s (record_at s (at + 8) k) ≡ found (get_or rows k other) (record_at s (at + 8) (k + 1))
    by (found h stop) g =
        let a : accepted (field_list strict s at) ≡ true = rw e in
        let n : length rows ≡ h.count = rw e at (list_count_lem strict (at_most most_fields) (λ n _. record_of strict (field n)) s at g a) in
        let c = closed_found (in_item at h.count) strict stop (items at (λ _. record_of strict (field h.count)) h.count [] (take stop s) h.start) (sym (list_is strict (at_most most_fields) (λ n _. record_of strict (field n)) s at g) ∙ e) in
        let there = items_places strict (field h.count) at stop s other h.count [] h.start c.was k (omega arith) in
        rw (n, ← list_start (at_most most_fields) s at g, add-one k) (rw (zero-add k) at there)
    by (refused f) g = let w : field_list strict s at ≡ refused f = rw g in never (sym w ∙ e)
