-- The loop over the items of a list frame: its invariant, and what a turn, a refusal and the end make of it.
use Prim.Native.Nat.{ℕ, zero, suc, ◌+◌, ◌-◌, ◌*◌, ◌≤◌, ◌<◌, zero-le}
use mathlib.Core.Path.{◌≡◌, refl, ap, sym, ◌∙◌}
use mathlib.Core.List.{List, [], ◌∷◌, ◌++◌}
use mathlib.Core.Bool.{Bool, true, false}
use native.Mathlib.Nat.{add-zero, zero-add}
use native.Mathlib.Omega.{arith}
use lib.ListN.{length, take, length-append}
use Rattle.wire.specs.Reading.{Step, found, refused, Rule, in_item, after, accepted, counted, rows_of, fault}
use Rattle.frames.specs.Frames.{record_of, record_body, record_head, at_most, list_count, list_stop, items, within, closed_by, spare, list_head, list_of}
use Rattle.wire.specs.declared.Fault.{Fault}
use Rattle.wire.specs.declared.Kind.TheVariants.{Spare}
use Rattle.wire.proofs.Laws.{never}
use Rattle.frames.proofs.Laws.{count_most, count_zero, closed_found}
use Rattle.numbers.specs.Choice.{pick}
use Rattle.numbers.proofs.Choice.{clash}
use Rattle.frames.specs.declared.ListHead.{ListHead}
use Rattle.numbers.specs.Lists.{Each}
use Rattle.numbers.proofs.Lists.{each_append}
use Rattle.numbers.specs.Rows.{put, flat, flat_by, over}
use Rattle.rows.proofs.TableLaws.{flat_is, Holds, holds_none, holds_more}

-- i items of the n at `head` have been read, from `start` to `at`: what is left to read gives what the whole list gives
pub record Reached {A : Type 0} (head : ℕ) (r : List A → Rule A) (n : ℕ) (s : List ℕ) (start i at : ℕ) : Type 0 where
  pub done : List A
  pub count : length done ≡ i
  pub most : i ≤ n
  pub same : items head r n [] s start ≡ items head r (n - i) done s at

module _ {A : Type 0} {head : ℕ} {r : List A → Rule A} {n : ℕ} {s : List ℕ} {start : ℕ} where
  -- where the loop begins
  unfoldable pub reached_none : Reached head r n s start 0 start
  reached_none = let e : n - 0 ≡ n = omega arith in record { done = []; count = refl; most = zero-le; same = rw e }

  module _ {i at : ℕ} (m : Reached head r n s start i at) where
    pub one_more : i < n → n - i ≡ suc (n - (i + 1))
    one_more h = omega arith

    -- a turn that finds an item
    unfoldable pub reached_more : {x : A} {p : ℕ} → i < n → r m.done s at ≡ found x p → Reached head r n s start (i + 1) p
    unfolding items
    reached_more {x} {p} h e =
        record {
          done = m.done ++ (x ∷ []);
          count = length-append m.done (x ∷ []) ∙ ap (λ k. k + 1) m.count;
          most = omega arith;
          same = rw (m.same, one_more h, e);
        }

    -- a turn that is refused
    pub reached_refused : {f : Fault} → i < n → r m.done s at ≡ refused f → items head r n [] s start ≡ refused (in_item head i f)
    unfolding items
    reached_refused h e = rw (m.same, one_more h, e, m.count)

    -- no turn is refused where the whole list is accepted
    pub reached_accepted : {f : Fault} → accepted (items head r n [] s start) ≡ true → i < n → r m.done s at ≡ refused f → ⊥
    reached_accepted a h e = clash (rw (reached_refused h e) at a) refl

    -- after the last item
    pub reached_all : n ≤ i → items head r n [] s start ≡ found m.done at
    unfolding items
    reached_all h = let e : n - i ≡ 0 = omega arith in rw (m.same, e)

    pub reached_counted : n ≤ i → found n at ≡ counted (items head r n [] s start)
    reached_counted h = let e : n ≡ i = omega arith in rw (reached_all h, m.count) (ap (λ k. found k at) e)

-- the loop that writes each item's words into a table
pub record Filled {A : Type 0} (w : ℕ → A → List ℕ) (head : ℕ) (r : List A → Rule A) (n : ℕ) (s : List ℕ) (start i at : ℕ) (old table : List ℕ) : Type 0 where
  pub reached : Reached head r n s start i at
  pub holds : Holds w reached.done old table

module _ {A : Type 0} {w : ℕ → A → List ℕ} {head : ℕ} {r : List A → Rule A} {n : ℕ} {s : List ℕ} {start : ℕ} {old : List ℕ} where
  pub filled_none : Filled w head r n s start 0 start old old
  unfolding reached_none
  filled_none = record { reached = reached_none; holds = holds_none }

  module _ {i at : ℕ} {table : List ℕ} (m : Filled w head r n s start i at old table) where
    pub filled_more : {x : A} {p : ℕ} {next : List ℕ} (width : ℕ) → ((i : ℕ) (a : A) → length (w i a) ≡ width) → i < n
        → r m.reached.done s at ≡ found x p → width * i + width ≤ length table → next ≡ put table (width * i) (w i x) → length next ≡ length table
        → Filled w head r n s start (i + 1) p old next
    unfolding reached_more
    filled_more {x} width each h e fits stored kept =
        record {
          reached = reached_more m.reached h e;
          holds = holds_more x width each m.holds m.reached.count fits stored kept;
        }

    pub filled_by : n ≤ i → table ≡ over (flat_by w 0 (rows_of (items head r n [] s start))) old
    filled_by h = rw (reached_all m.reached h) m.holds.rows

-- the same where the words of a row do not depend on its number
module _ {A : Type 0} {w : A → List ℕ} {head : ℕ} {r : List A → Rule A} {n : ℕ} {s : List ℕ} {start i at : ℕ} {old table : List ℕ} where
  pub filled_all : Filled (λ _. w) head r n s start i at old table → n ≤ i → table ≡ over (flat w (rows_of (items head r n [] s start))) old
  filled_all m h = rw (← flat_is w 0 (rows_of (items head r n [] s start))) (filled_by m h)

-- an accepted list has as many rows as its count says
module _ {A : Type 0} (head : ℕ) (r : List A → Rule A) (s : List ℕ) where
  pub items_count : (n : ℕ) (done : List A) (at : ℕ) → accepted (items head r n done s at) ≡ true → length (rows_of (items head r n done s at)) ≡ length done + n
  unfolding items
  items_count zero done at a = sym (add-zero (length done))
  items_count (suc n) done at a = by (items_count n) (r done s at) a
    where
      by : ((done : List A) (at : ℕ) → accepted (items head r n done s at) ≡ true → length (rows_of (items head r n done s at)) ≡ length done + n) → (x : Step A) → accepted (after (λ x. items head r n (done ++ (x ∷ []))) s (within head (length done) x)) ≡ true
          → length (rows_of (after (λ x. items head r n (done ++ (x ∷ []))) s (within head (length done) x))) ≡ length done + suc n
      by more (found x p) h = let e = more (done ++ (x ∷ [])) p h in omega (arith, e, length-append done (x ∷ []))
      by more (refused f) h = clash h refl

-- a list that is accepted with its frame's end has accepted items, and the same rows
module _ {A : Type 0} (mark : Fault → Fault) (strict : Bool) (stop : ℕ) where
  pub closed_accepted : (x : Step (List A)) → accepted (closed_by mark strict stop x) ≡ true → (accepted x ≡ true) × (rows_of (closed_by mark strict stop x) ≡ rows_of x)
  closed_accepted (found rows p) a = by (spare strict p stop) a
    where
      by : (b : Bool) → accepted (pick {A = Step (List A)} b (refused (mark (fault 11 Spare p))) (found rows stop)) ≡ true
          → (true ≡ true) × (rows_of (pick b (refused (mark (fault 11 Spare p))) (found rows stop)) ≡ rows)
      by true h = clash h refl
      by false h = (refl, refl)
  closed_accepted (refused f) a = clash a refl

-- a frame that is accepted ends where its size says
pub closed_ends : {A : Type 0} (mark : Fault → Fault) (strict : Bool) (stop : ℕ) (x : Step (List A)) → accepted (closed_by mark strict stop x) ≡ true → closed_by mark strict stop x ≡ found (rows_of x) stop
closed_ends {A} mark strict stop (found a p) h = by (spare strict p stop) h
  where
    by : (b : Bool) → accepted (pick b (refused (mark (fault 11 Spare p))) (found a stop)) ≡ true → pick {A = Step (List A)} b (refused (mark (fault 11 Spare p))) (found a stop) ≡ found a stop
    by true g = clash g refl
    by false g = refl
closed_ends mark strict stop (refused f) h = clash h refl

-- a list frame whose head was read: what an accepted list has to do with its items
module _ {A : Type 0} (strict : Bool) (verdict : ℕ → ℕ) (r : ℕ → List A → Rule A) (s : List ℕ) (at : ℕ) {h : ListHead} {stop : ℕ} (head : list_head verdict s at ≡ found h stop) where
  pub list_is : list_of strict verdict r s at ≡ closed_by (in_item at h.count) strict stop (items at (r h.count) h.count [] (take stop s) h.start)
  unfolding list_of
  list_is = rw head

  module _ (a : accepted (list_of strict verdict r s at) ≡ true) where
    pub list_accepted : accepted (items at (r h.count) h.count [] (take stop s) h.start) ≡ true
    list_accepted = (closed_accepted (in_item at h.count) strict stop (items at (r h.count) h.count [] (take stop s) h.start) (rw list_is at a)).0

    pub list_rows : rows_of (list_of strict verdict r s at) ≡ rows_of (items at (r h.count) h.count [] (take stop s) h.start)
    list_rows = rw list_is (closed_accepted (in_item at h.count) strict stop (items at (r h.count) h.count [] (take stop s) h.start) (rw list_is at a)).1

    pub list_count_lem : length (rows_of (list_of strict verdict r s at)) ≡ h.count
    list_count_lem = rw list_rows (items_count at (r h.count) (take stop s) h.count [] h.start list_accepted ∙ zero-add h.count)

-- a list that was found has at most as many rows as its verdict lets pass
pub list_most : {A : Type 0} (strict : Bool) (most : ℕ) (r : ℕ → List A → Rule A) (s : List ℕ) (at : ℕ) {rows : List A} {p : ℕ} → list_of strict (at_most most) r s at ≡ found rows p → length rows ≤ most
unfolding list_of
list_most {A} strict most r s at {rows} {p} e = by (list_head (at_most most) s at) refl
  where
    by : (x : Step ListHead) → list_head (at_most most) s at ≡ x → length rows ≤ most
    by (found h stop) g =
        let a : accepted (list_of strict (at_most most) r s at) ≡ true = rw e in
        let n = rw e at (list_count_lem strict (at_most most) r s at g a) in
        let m = count_most most at (list_count s at (list_stop s at)) g in
        omega arith
    by (refused f) g = let w : list_of strict (at_most most) r s at ≡ refused f = rw g in never (sym w ∙ e)

-- a fact of every row

module _ {A : Type 0} (P : A → Type 0) (head : ℕ) (r : List A → Rule A) (s : List ℕ) (rule : (done : List A) (at : ℕ) (x : A) (p : ℕ) → r done s at ≡ found x p → P x) where
  pub items_each : (n : ℕ) (done : List A) (at : ℕ) {rows : List A} {p : ℕ} → Each P done → items head r n done s at ≡ found rows p → Each P rows
  unfolding items
  items_each zero done at {rows} each e = let same : done ≡ rows = cc in rw same at each
  items_each (suc n) done at {rows} {p} each e = by (λ d a. items_each n d a) (r done s at) refl e
    where
      by : ((done : List A) (at : ℕ) → Each P done → items head r n done s at ≡ found rows p → Each P rows) → (x : Step A) → r done s at ≡ x
          → after (λ x. items head r n (done ++ (x ∷ []))) s (within head (length done) x) ≡ found rows p → Each P rows
      by more (found x q) g w = more (done ++ (x ∷ [])) q (each_append P done (x ∷ []) each (rule done at x q g, tt)) w
      by more (refused f) g w = never w

-- a record that was found has a content that was
pub record_found : {A : Type 0} (P : A → Type 0) (strict : Bool) (r : Rule A) (s : List ℕ) (at : ℕ) {x : A} {p : ℕ}
    → ((stop from q : ℕ) → r (take stop s) from ≡ found x q → P x) → record_of strict r s at ≡ found x p → P x
unfolding record_of
record_found P strict r s at {x} {p} rule e = by (record_head s at) e
  where
    by : (h : Step ℕ) → record_body strict r s h ≡ found x p → P x
    by (found start stop) g = let k = closed_found (λ f. f) strict stop (r (take stop s) start) g in rule stop start k.end k.was
    by (refused f) g = never g

-- every row of a list that was found
module _ {A : Type 0} (P : ℕ → A → Type 0) (strict : Bool) (verdict : ℕ → ℕ) (r : ℕ → List A → Rule A) (s : List ℕ) (at : ℕ)
    (rule : (n : ℕ) (done : List A) (stop from : ℕ) (x : A) (p : ℕ) → r n done (take stop s) from ≡ found x p → P n x) where
  pub list_each : {rows : List A} {p : ℕ} → list_of strict verdict r s at ≡ found rows p → Each (P (length rows)) rows
  unfolding list_of
  list_each {rows} {p} e = by (list_head verdict s at) refl
    where
      by : (x : Step ListHead) → list_head verdict s at ≡ x → Each (P (length rows)) rows
      by (found h stop) g =
          let a : accepted (list_of strict verdict r s at) ≡ true = rw e in
          let n : length rows ≡ h.count = rw e at (list_count_lem strict verdict r s at g a) in
          let k = closed_found (in_item at h.count) strict stop (items at (r h.count) h.count [] (take stop s) h.start) (sym (list_is strict verdict r s at g) ∙ e) in
          rw n (items_each (P h.count) at (r h.count) (take stop s) (λ done from x q. rule h.count done stop from x q) h.count [] h.start tt k.was)
      by (refused f) g = let w : list_of strict verdict r s at ≡ refused f = rw g in never (sym w ∙ e)

-- the count of a list that was found has passed its verdict
pub list_passed : {A : Type 0} (strict : Bool) (verdict : ℕ → ℕ) (r : ℕ → List A → Rule A) (s : List ℕ) (at : ℕ) {rows : List A} {p : ℕ} → list_of strict verdict r s at ≡ found rows p → verdict (length rows) ≡ 0
unfolding list_of
list_passed {A} strict verdict r s at {rows} {p} e = by (list_head verdict s at) refl
  where
    by : (x : Step ListHead) → list_head verdict s at ≡ x → verdict (length rows) ≡ 0
    by (found h stop) g =
        let a : accepted (list_of strict verdict r s at) ≡ true = rw e in
        let n : length rows ≡ h.count = rw e at (list_count_lem strict verdict r s at g a) in
        rw n (count_zero verdict at (list_count s at (list_stop s at)) g)
    by (refused f) g = let w : list_of strict verdict r s at ≡ refused f = rw g in never (sym w ∙ e)
