-- Tables that hold the words of rows in front. Assumes nothing.
use Prim.Native.Nat.{ℕ, suc, ◌+◌, ◌*◌, ◌≤◌, ◌<◌}
use mathlib.Core.Path.{◌≡◌, refl, ap, ◌∙◌}
use mathlib.Core.List.{List, [], ◌∷◌, ◌++◌, append_assoc, append-nil, map, flatten}
use native.Mathlib.Nat.{mul-zero, mul-suc, add_comm, add-zero, zero-add, one-mul}
use native.Mathlib.Numerals.{add-one}
use borrow.Author.Tests.{le-leb}
use native.Mathlib.Omega.{arith}
use lib.ListN.{length, set, length-append, length-set}
use lib.Seq.{take-append_seam, drop-append-add, drop-drop, append_snoc, set_split}
use Rattle.numbers.specs.Rows.{put, flat, flat_by, over}

-- numbered rows whose words do not depend on the number
pub flat_is : {A : Type 0} (w : A → List ℕ) (i : ℕ) (rows : List A) → flat_by (λ _. w) i rows ≡ flat w rows
unfolding flat flat_by
flat_is w i [] = refl
flat_is w i (a ∷ rest) = rw (flat_is w (suc i) rest)

-- rows in two lists, and in a list of lists, are rows of one list
pub flat_join : {A : Type 0} (w : A → List ℕ) (done more : List A) → flat w (done ++ more) ≡ flat w done ++ flat w more
unfolding flat
flat_join w [] more = refl
flat_join w (a ∷ rest) more = rw (flat_join w rest more, append_assoc)

pub flat_flat : {A : Type 0} (w : A → List ℕ) (lists : List (List A)) → flat (flat w) lists ≡ flat w (flatten lists)
unfolding flat flatten
flat_flat w [] = refl
flat_flat w (rows ∷ rest) = rw (flat_flat w rest, flat_join w rows (flatten rest))

pub flat_same : {A : Type 0} (w v : ℕ → A → List ℕ) → ((i : ℕ) (a : A) → w i a ≡ v i a) → (i : ℕ) (rows : List A) → flat_by w i rows ≡ flat_by v i rows
unfolding flat_by
flat_same w v e i [] = refl
flat_same w v e i (a ∷ rest) = rw (e i a, flat_same w v e (suc i) rest)

pub flat_append : {A : Type 0} (w : ℕ → A → List ℕ) (i : ℕ) (done more : List A) → flat_by w i (done ++ more) ≡ flat_by w i done ++ flat_by w (i + length done) more
unfolding flat_by
flat_append w i [] more = rw add-zero
flat_append w i (a ∷ rest) more =
    let e : i + suc (length rest) ≡ suc i + length rest = omega arith in
    rw (flat_append w (suc i) rest more, append_assoc, e)

-- one row more in a table that holds rows in front
pub over_put : (words row old : List ℕ) → length words + length row ≤ length (over words old) → put (over words old) (length words) row ≡ over (words ++ row) old
unfolding put
over_put words row old fits =
    rw (le-leb _ _ fits, take-append_seam, drop-append-add, drop-drop, length-append) (simp append_assoc)

pub flat_length : {A : Type 0} (w : ℕ → A → List ℕ) (width : ℕ) → ((i : ℕ) (a : A) → length (w i a) ≡ width) → (i : ℕ) (rows : List A) → length (flat_by w i rows) ≡ width * length rows
unfolding flat_by
flat_length w width each i [] = rw mul-zero
flat_length w width each i (a ∷ rest) = rw (length-append, each i a, flat_length w width each (suc i) rest, mul-suc) (add_comm _ _)

-- a table that held `old` has the words of each item that is done in front
pub record Holds {A : Type 0} (w : ℕ → A → List ℕ) (done : List A) (old table : List ℕ) : Type 0 where
  pub rows : table ≡ over (flat_by w 0 done) old
  pub long : length table ≡ length old

module _ {A : Type 0} {w : ℕ → A → List ℕ} {old : List ℕ} where
  pub holds_none : Holds w [] old old
  unfolding flat_by
  holds_none = record { rows = refl; long = refl }

  -- one row more is put after i rows of `width` words
  pub holds_more : {done : List A} {table next : List ℕ} {i : ℕ} (x : A) (width : ℕ) → ((i : ℕ) (a : A) → length (w i a) ≡ width) → Holds w done old table → length done ≡ i
      → width * i + width ≤ length table → next ≡ put table (width * i) (w i x) → length next ≡ length table → Holds w (done ++ (x ∷ [])) old next
  unfolding flat_by
  holds_more {done} {table} {next} {i} x width each m count fits stored kept =
      let size : length (flat_by w 0 done) ≡ width * i = flat_length w width each 0 done ∙ ap (λ k. width * k) count in
      let one = each i x in
      let room : length (flat_by w 0 done) + length (w i x) ≤ length (over (flat_by w 0 done) old) = let e = m.rows in rw (← e) (omega arith) in
      record {
        rows = rw (stored, ← size, m.rows, over_put (flat_by w 0 done) (w i x) old room, flat_append, zero-add, count, append-nil);
        long = kept ∙ m.long;
      }

  -- the same where a row is one word, and is stored
  pub holds_set : {done : List A} {table : List ℕ} {i v : ℕ} (x : A) → ((i : ℕ) (a : A) → length (w i a) ≡ 1) → w i x ≡ v ∷ [] → Holds w done old table → length done ≡ i
      → i < length table → Holds w (done ++ (x ∷ [])) old (set table i v)
  unfolding put
  holds_set {table = table} {i = i} {v = v} x each word m count inside =
      holds_more x 1 each m count (omega arith) (rw (word, one-mul, le-leb (i + 1) (length table) (omega arith), add-one, append_snoc) (set_split table i v inside)) (length-set table i v)

-- rows of one word each
pub flat_one : {A : Type 0} (f : A → ℕ) (i : ℕ) (rows : List A) → flat_by (λ _ a. f a ∷ []) i rows ≡ map f rows
unfolding flat_by
flat_one f i [] = refl
flat_one f i (a ∷ rest) = rw (flat_one f (suc i) rest)
