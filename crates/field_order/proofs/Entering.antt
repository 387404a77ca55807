-- Entries written one after the other. Assumes nothing.
use Prim.Native.Nat.{ℕ, suc, ◌+◌, ◌*◌, ◌≤◌}
use mathlib.Core.Path.{◌≡◌, refl, sym, ap, subst, ◌∙◌}
use mathlib.Core.List.{List, [], ◌∷◌, ◌++◌}
use native.Mathlib.Nat.{add-zero}
use native.Mathlib.Omega.{arith}
use borrow.Author.Tests.{le-leb}
use lib.ListN.{length, length-append, set}
use lib.Seq.{sets, sets-eq}
use Rattle.numbers.specs.Rows.{flat, put}
use Rattle.rows.proofs.TableLaws.{flat_join}
use Rattle.listing.specs.Order.{Entry}
use Rattle.listing.specs.Entries.{entry_words}
use Rattle.field_order.specs.Entered.{Entered}

-- words put where there is room, one store after the other
put_sets : (t : List ℕ) (a : ℕ) (xs : List ℕ) → a + length xs ≤ length t → put t a xs ≡ sets t a xs
unfolding put
put_sets t a xs h = rw (le-leb (a + length xs) (length t) h) (sym (sets-eq xs t a h))

sets_join : (xs ys t : List ℕ) (i : ℕ) → sets (sets t i xs) (i + length xs) ys ≡ sets t i (xs ++ ys)
sets_join [] ys t i = ap (λ (j : ℕ). sets t j ys) (add-zero i)
sets_join (x ∷ xs) ys t i =
    let e : i + suc (length xs) ≡ suc i + length xs = omega arith in
    ap (λ (j : ℕ). sets (sets (set t i x) (suc i) xs) j ys) e ∙ sets_join xs ys (set t i x) (suc i)

entries_length : (l : List Entry) → length (flat entry_words l) ≡ 2 * length l
unfolding flat
entries_length [] = refl
entries_length (x ∷ l) = let r = entries_length l in omega arith

module _ {old : List ℕ} {at : ℕ} where
  pub entered_none : 2 * at ≤ length old → Entered old at old at []
  unfolding flat
  entered_none h = record { ends = sym (add-zero at); holds = sym (put_sets old (2 * at) [] (let e = add-zero (2 * at) in omega arith)); long = refl }

  pub entered_as : {new : List ℕ} {next : ℕ} {l m : List Entry} → l ≡ m → Entered old at new next l → Entered old at new next m
  entered_as {new} {next} e i = subst (Entered old at new next) e i

  pub entered_then : {new : List ℕ} {next : ℕ} {l m : List Entry} {last : List ℕ} {end : ℕ} → 2 * (at + length (l ++ m)) ≤ length old
      → Entered old at new next l → Entered new next last end m → Entered old at last end (l ++ m)
  entered_then {new} {next} {l} {m} {last} {end} room i j =
      let k = length-append l m in
      let a = entries_length l in
      let b = entries_length m in
      let xs = flat entry_words l in
      let ys = flat entry_words m in
      let g = length-append xs ys in
      let z = i.ends in
      let long = i.long in
      let here : 2 * next ≡ 2 * at + length xs = omega arith in
      let whole : last ≡ sets old (2 * at) (xs ++ ys)
      = j.holds ∙ put_sets new (2 * next) ys (omega arith)
      ∙ (λ t. sets ((i.holds ∙ put_sets old (2 * at) xs (omega arith)) t) (here t) ys) ∙ sets_join xs ys old (2 * at) in
      record {
        ends = let y = j.ends in omega arith;
        holds = whole ∙ sym (put_sets old (2 * at) (xs ++ ys) (omega arith)) ∙ ap (put old (2 * at)) (sym (flat_join entry_words l m));
        long = j.long ∙ long;
      }

  -- one entry
  pub entered_one : {new : List ℕ} (x : Entry) → new ≡ put old (2 * at) (entry_words x) → length new ≡ length old → Entered old at new (at + 1) (x ∷ [])
  unfolding flat
  entered_one x is long = record { ends = refl; holds = is; long = long }
