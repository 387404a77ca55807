-- Rows at a place of the bytes: the byte there, how many bytes its row has, and what the rest then decides.
use Prim.Native.Nat.{ℕ, ◌+◌, ◌≤◌, ◌<◌}
use mathlib.Core.Path.{◌≡◌, refl, sym, ap, ◌∙◌}
use mathlib.Core.Bool.{Bool, true, false}
use mathlib.Core.List.{List, [], ◌∷◌}
use native.Mathlib.Numerals.{add-one}
use native.Mathlib.Omega.{arith}
use lib.Dec.{ltb}
use lib.ListN.{length, drop, get_or, length-drop, drop_of_length-le}
use lib.Seq.{drop-drop, drop-cons}
use borrow.Author.Tests.{ltb-true, ltb-false}
use Rattle.numbers.specs.Choice.{pick, both}
use Rattle.utf8.specs.WellFormed.{Range, ◌to◌, inside, trailing, nothing, table, due}
use Rattle.utf8.specs.Walking.{begins, width, least_second, most_second}
use Rattle.numbers.proofs.Choice.{both_right}
use Rattle.utf8.proofs.Rows.{due_one, due_none, due_two, due_three, due_four, due_past, begins_length, begins_more, begins_nothing}

module _ (s : List ℕ) (r : Range) (at : ℕ) where
  -- a byte in a range, and none
  pub byte_there : at < length s → begins (r ∷ []) (drop at s) ≡ inside r (get_or s at 0)
  unfolding begins
  byte_there h = rw (drop-cons s at 0 h, both_right)

  pub byte_missing : length s ≤ at → begins (r ∷ []) (drop at s) ≡ false
  unfolding begins
  byte_missing h = rw (drop_of_length-le s h)

  -- where a byte is in a range, there is one
  pub byte_inside : begins (r ∷ []) (drop at s) ≡ true → at < length s
  byte_inside e = omega (arith, begins_length (r ∷ []) (drop at s) e, length-drop at s)

  begins_at : (rs : List Range) → begins (r ∷ rs) (drop at s) ≡ both (begins (r ∷ []) (drop at s)) (begins rs (drop (at + 1) s))
  begins_at rs = begins_more r rs (drop at s) ∙ rw (drop-drop 1 at s)

-- the bytes of the row at a place: the first, and whether the others are in their ranges
abbrev pub first : List ℕ → ℕ → ℕ
first s at = get_or s at 0

abbrev pub second : List ℕ → ℕ → Bool
second s at = begins (least_second (first s at) to most_second (first s at) ∷ []) (drop (at + 1) s)

abbrev pub continues : List ℕ → ℕ → Bool
continues s at = begins (trailing ∷ []) (drop at s)

pub second_told : (s : List ℕ) (at : ℕ) {l m : ℕ} {r : Bool} → l ≡ least_second (first s at) → m ≡ most_second (first s at)
    → r ≡ begins (l to m ∷ []) (drop (at + 1) s) → second s at ≡ r
second_told s at p q e = sym (e ∙ rw (p, q))

-- how many bytes the row has
module _ (s : List ℕ) (at : ℕ) (there : at < length s) where
  abbrev b : ℕ
  b = first s at

  width_by : (rs : List Range) → due table b ≡ rs → width (drop at s) ≡ pick (begins rs (drop (at + 1) s)) (1 + length rs) 0
  unfolding width
  width_by rs e = rw (drop-cons s at 0 there, add-one, e)

  pub width_one : b < 0x80 → width (drop at s) ≡ 1
  unfolding begins
  width_one h = width_by [] (due_one b h)

  pub width_none : 0x80 ≤ b → b < 0xC2 → width (drop at s) ≡ 0
  width_none h g = width_by (nothing ∷ []) (due_none b h g) ∙ rw begins_nothing

  pub width_past : 0xF4 < b → width (drop at s) ≡ 0
  width_past h = width_by (nothing ∷ []) (due_past b h) ∙ rw begins_nothing

  pub width_two : 0xC2 ≤ b → b < 0xE0 → width (drop at s) ≡ pick (continues s (at + 1)) 2 0
  width_two h g = width_by _ (due_two b h g)

  by_three : 0xE0 ≤ b → b < 0xF0 → width (drop at s) ≡ pick (both (second s at) (continues s (at + 2))) 3 0
  by_three h g =
      let e : at + 1 + 1 ≡ at + 2 = omega arith in
      let m : begins (least_second b to most_second b ∷ trailing ∷ []) (drop (at + 1) s) ≡ both (second s at) (continues s (at + 2)) = begins_at s _ (at + 1) (trailing ∷ []) ∙ rw e in
      width_by _ (due_three b h g) ∙ ap (λ (t : Bool). pick t 3 0) m

  by_four : 0xF0 ≤ b → b ≤ 0xF4 → width (drop at s) ≡ pick (both (second s at) (both (continues s (at + 2)) (continues s (at + 3)))) 4 0
  by_four h g =
      let e : at + 1 + 1 ≡ at + 2 = omega arith in
      let f : at + 2 + 1 ≡ at + 3 = omega arith in
      let m : begins (least_second b to most_second b ∷ trailing ∷ trailing ∷ []) (drop (at + 1) s) ≡ both (second s at) (both (continues s (at + 2)) (continues s (at + 3))) = begins_at s _ (at + 1) (trailing ∷ trailing ∷ []) ∙ rw (e, begins_at s trailing (at + 2) (trailing ∷ []), f) in
      width_by _ (due_four b h g) ∙ ap (λ (t : Bool). pick t 4 0) m

  -- three bytes or four: the fourth is due from F0 on
  pub width_long : 0xE0 ≤ b → b ≤ 0xF4
      → width (drop at s) ≡ pick (both (second s at) (both (continues s (at + 2)) (pick (ltb b 0xF0) true (continues s (at + 3))))) (pick (ltb b 0xF0) 3 4) 0
  width_long h g = by (ltb b 0xF0) refl
    where
      by : (t : Bool) → ltb b 0xF0 ≡ t
          → width (drop at s) ≡ pick (both (second s at) (both (continues s (at + 2)) (pick t true (continues s (at + 3))))) (pick t 3 4) 0
      by true e = by_three h (ltb-true b 0xF0 e) ∙ rw both_right
      by false e = by_four (ltb-false b 0xF0 e) g
