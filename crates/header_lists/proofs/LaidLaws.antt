-- Rows that are written into a table one after the other, each where there is room for it.
use Prim.Native.Nat.{ℕ, suc, ◌+◌, ◌*◌, ◌≤◌, ◌<◌}
use mathlib.Core.Path.{◌≡◌, refl, sym, ap, ◌∙◌}
use mathlib.Core.List.{List, [], ◌∷◌, ◌++◌, append_assoc, append-nil}
use native.Mathlib.Nat.{add-zero, zero-add, mul-zero, mul-suc}
use native.Mathlib.Omega.{arith}
use native.Mathlib.Numerals.{add-one}
use lib.ListN.{length, take, set, replicate, replicate-append-replicate, length-append}
use lib.Seq.{take-suc-set}
use Rattle.numbers.specs.Rows.{put, flat, over}
use Rattle.numbers.proofs.Parts.{over_length}
use Rattle.rows.proofs.TableLaws.{over_put}
use Rattle.header_lists.specs.Kept.{laid}

module _ {A : Type 0} (width : ℕ) (w : A → List ℕ) where
  -- one row more
  laid_snoc : (i : ℕ) (done : List A) (x : A) (table : List ℕ) → laid width w i (done ++ (x ∷ [])) table ≡ put (laid width w i done table) (width * (i + length done)) (w x)
  unfolding laid
  laid_snoc i [] x table = rw add-zero
  laid_snoc i (a ∷ rest) x table =
      let e : i + suc (length rest) ≡ suc i + length rest = omega arith in
      rw (e, laid_snoc (suc i) rest x (put table (width * i) (w a)))

  -- where there is room for all of them, they are in front
  laid_after : ((a : A) → length (w a) ≡ width) → (i : ℕ) (front : List ℕ) (rows : List A) (old : List ℕ) → length front ≡ width * i → width * i + width * length rows ≤ length old
      → laid width w i rows (over front old) ≡ over (front ++ flat w rows) old
  unfolding laid flat
  laid_after each i front [] old size fits = rw append-nil
  laid_after each i front (a ∷ rest) old size fits =
      let one = each a in
      let m : width * suc i ≡ width * i + width = omega (arith, mul-suc width i) in
      let k : width * suc (length rest) ≡ width * length rest + width = omega (arith, mul-suc width (length rest)) in
      let j = length-append front (w a) in
      let o = over_length front old (omega arith) in
      rw (← size, over_put front (w a) old (omega arith)) (laid_after each (suc i) (front ++ w a) rest old (omega arith) (omega arith) ∙ ap (λ (v : List ℕ). over v old) (append_assoc front (w a) (flat w rest)))

  pub laid_over : ((a : A) → length (w a) ≡ width) → (rows : List A) (old : List ℕ) → width * length rows ≤ length old → laid width w 0 rows old ≡ over (flat w rows) old
  laid_over each rows old fits = laid_after each 0 [] rows old (sym (mul-zero width)) (let z = mul-zero width in omega arith)

-- a table that held `old` has the row of each item that is done, where there is room
pub record Laid {A : Type 0} (width : ℕ) (w : A → List ℕ) (done : List A) (old table : List ℕ) : Type 0 where
  pub rows : table ≡ laid width w 0 done old
  pub long : length table ≡ length old

module _ {A : Type 0} {width : ℕ} {w : A → List ℕ} {old : List ℕ} where
  pub laid_none : Laid width w [] old old
  unfolding laid
  laid_none = record { rows = refl; long = refl }

  pub laid_more : {done : List A} {table next : List ℕ} {i : ℕ} (x : A) → Laid width w done old table → length done ≡ i
      → next ≡ put table (width * i) (w x) → length next ≡ length table → Laid width w (done ++ (x ∷ [])) old next
  laid_more {done} x m count stored kept =
      record { rows = rw (stored, ← count, m.rows, laid_snoc width w 0 done x old, zero-add); long = kept ∙ m.long }

-- one word more of a table that is cleared
pub clear_more : (table : List ℕ) (i : ℕ) → take i table ≡ replicate i 0 → i < length table → take (i + 1) (set table i 0) ≡ replicate (i + 1) 0
clear_more table i e h = rw (add-one i) (take-suc-set table i 0 h ∙ ap (λ (l : List ℕ). l ++ (0 ∷ [])) e ∙ replicate-append-replicate i 1 0 ∙ ap (λ (k : ℕ). replicate k 0) (add-one i))
