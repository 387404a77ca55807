-- What a scan leaves in the tables that it is lent, from its loops to a list in its frame.
use Prim.Native.Nat.{ℕ, ◌≤◌}
use mathlib.Core.Path.{◌≡◌, sym, ap, subst, ◌∙◌}
use mathlib.Core.Bool.{Bool}
use mathlib.Core.List.{List, [], ◌∷◌, map}
use lib.ListN.{take}
use Rattle.numbers.specs.Rows.{over}
use Rattle.wire.specs.declared.Fault.{Fault}
use Rattle.wire.specs.Reading.{Step, found, refused, Rule, in_item, counted}
use Rattle.wire.proofs.Laws.{never}
use Rattle.rows.proofs.TableLaws.{Holds, flat_one}
use Rattle.frames.specs.Frames.{items, list_of, list_head, closed_by}
use Rattle.frames.specs.declared.ListHead.{ListHead}
use Rattle.frames.proofs.Laws.{closed_found, counted_closed}
use Rattle.frames.proofs.Loops.{Reached, reached_all, list_is}
use Rattle.header_lists.specs.Kept.{Kept, laid}
use Rattle.header_lists.proofs.LaidLaws.{Laid}

-- what was found, laid over a table
pub kept_found : {A : Type 0} (lay : A → List ℕ → List ℕ) {x : Step A} {old new : List ℕ} {b : A} {q : ℕ} → x ≡ found b q → new ≡ lay b old → Kept lay x old new
kept_found lay {old = old} {new = new} {b = b} e h =
    record {
      holds = λ a p w.
          let g = sym e ∙ w in
          let same : b ≡ a = cc in
          subst (λ y. new ≡ lay y old) same h;
    }

-- nothing is asked of what a refused scan leaves
pub kept_refused : {A : Type 0} {lay : A → List ℕ → List ℕ} {x : Step A} {old new : List ℕ} {g : Fault} → x ≡ refused g → Kept lay x old new
kept_refused e = record { holds = λ _ _ w. never (sym e ∙ w) }

-- a loop over the items of a list, at its end
module _ {A : Type 0} {head : ℕ} {r : List A → Rule A} {n : ℕ} {s : List ℕ} {start i at : ℕ} {old table : List ℕ} (m : Reached head r n s start i at) (left : n ≤ i) where
  -- a table that has a word of each item
  pub kept_word : (f : A → ℕ) → Holds (λ _ x. f x ∷ []) m.done old table → Kept (λ rows. over (map f rows)) (items head r n [] s start) old table
  kept_word f h = kept_found (λ rows. over (map f rows)) (reached_all m left) (subst (λ (w : List ℕ). table ≡ over w old) (flat_one f 0 m.done) h.rows)

  -- a table that has the row of each item
  pub kept_rows : (width : ℕ) (w : A → List ℕ) → Laid width w m.done old table → Kept (laid width w 0) (items head r n [] s start) old table
  kept_rows width w h = kept_found (laid width w 0) (reached_all m left) h.rows

-- from the items of a list to the list in its frame, which was read after what stands before it
module _ {A : Type 0} (strict : Bool) (verdict : ℕ → ℕ) (r : ℕ → List A → Rule A) (s : List ℕ) (at : ℕ) {y : Step (List A)} (is : y ≡ list_of strict verdict r s at) where
  -- its head was refused
  pub head_refused : {g : Fault} → list_head verdict s at ≡ refused g → y ≡ refused g
  unfolding list_of
  head_refused e = is ∙ rw e

  module _ {h : ListHead} {stop : ℕ} (head : list_head verdict s at ≡ found h stop) {inner : List ℕ} (cut : inner ≡ take stop s) where
    closed_is : y ≡ closed_by (in_item at h.count) strict stop (items at (r h.count) h.count [] inner h.start)
    closed_is = rw cut (is ∙ list_is strict verdict r s at head)

    pub kept_list : {lay : List A → List ℕ → List ℕ} {old new : List ℕ} → Kept lay (items at (r h.count) h.count [] inner h.start) old new → Kept lay y old new
    kept_list k =
        record {
          holds = λ rows p e.
              let c = closed_found (in_item at h.count) strict stop (items at (r h.count) h.count [] inner h.start) (sym closed_is ∙ e) in
              k.holds rows c.end c.was;
        }

    pub counted_list : {scanned after : Step ℕ} → scanned ≡ counted (items at (r h.count) h.count [] inner h.start)
        → after ≡ closed_by (in_item at h.count) strict stop scanned → after ≡ counted y
    counted_list e c =
        c ∙ ap (closed_by (in_item at h.count) strict stop) e
        ∙ sym (ap counted closed_is ∙ counted_closed (in_item at h.count) strict stop (items at (r h.count) h.count [] inner h.start))
