-- Laws of the table's rows: what is due after each first byte, and how many bytes a row takes.
use Prim.Native.Nat.{ℕ, zero, suc, ◌≤◌, ◌<◌}
use mathlib.Core.Path.{◌≡◌, refl}
use mathlib.Core.Bool.{Bool, true, false}
use mathlib.Core.List.{List, [], ◌∷◌}
use native.Mathlib.Omega.{arith}
use lib.Dec.{leb, eqb}
use lib.ListN.{length, drop}
use borrow.Author.Tests.{leb-true, leb-false, le-leb, lt-leb, eqb-true, eqb-false, ne_eqb}
use Rattle.numbers.specs.Choice.{both}
use Rattle.utf8.specs.WellFormed.{Range, ◌to◌, inside, trailing, nothing, table, due}
use Rattle.numbers.proofs.Choice.{both_true, both_right, clash}
use Rattle.utf8.specs.Walking.{begins, least_second, most_second}

pub in_range : (least most b : ℕ) → least ≤ b → b ≤ most → inside (least to most) b ≡ true
in_range least most b h g = rw (le-leb least b h, le-leb b most g)

pub above_range : (least most b : ℕ) → most < b → inside (least to most) b ≡ false
above_range least most b h = by (leb least b)
  where
    by : (t : Bool) → both t (leb b most) ≡ false
    by true = lt-leb b most h
    by false = refl

pub below_range : (least most b : ℕ) → b < least → inside (least to most) b ≡ false
below_range least most b h = rw (lt-leb least b h)

pub nothing_inside : (b : ℕ) → inside nothing b ≡ false
nothing_inside zero = refl
nothing_inside (suc b) = above_range 1 0 (suc b) (omega arith)

module _ (b : ℕ) where
  -- a second byte that is not narrowed
  least_plain : (b ≡ 0xE0 → ⊥) → (b ≡ 0xF0 → ⊥) → least_second b ≡ 0x80
  least_plain h g = rw (ne_eqb b 0xE0 h, ne_eqb b 0xF0 g)

  most_plain : (b ≡ 0xED → ⊥) → (b ≡ 0xF4 → ⊥) → most_second b ≡ 0xBF
  most_plain h g = rw (ne_eqb b 0xED h, ne_eqb b 0xF4 g)

  -- what is due after a first byte, by the number of bytes
  pub due_one : b < 0x80 → due table b ≡ []
  unfolding due
  due_one h = rw (in_range 0x00 0x7F b (omega arith) (omega arith))

  -- a byte that follows in a sequence, and overlong forms of two bytes
  pub due_none : 0x80 ≤ b → b < 0xC2 → due table b ≡ nothing ∷ []
  unfolding due
  due_none h g =
      rw (
        above_range 0x00 0x7F b (omega arith),
        below_range 0xC2 0xDF b (omega arith),
        below_range 0xE0 0xE0 b (omega arith),
        below_range 0xE1 0xEC b (omega arith),
        below_range 0xED 0xED b (omega arith),
        below_range 0xEE 0xEF b (omega arith),
        below_range 0xF0 0xF0 b (omega arith),
        below_range 0xF1 0xF3 b (omega arith),
        below_range 0xF4 0xF4 b (omega arith),
      )

  pub due_two : 0xC2 ≤ b → b < 0xE0 → due table b ≡ trailing ∷ []
  unfolding due
  due_two h g = rw (above_range 0x00 0x7F b (omega arith), in_range 0xC2 0xDF b (omega arith) (omega arith))

  pub due_three : 0xE0 ≤ b → b < 0xF0 → due table b ≡ least_second b to most_second b ∷ trailing ∷ []
  unfolding due
  due_three h g = by (eqb b 0xE0) (eqb b 0xED) (leb b 0xEC) refl refl refl
    where
      by : (p q r : Bool) → eqb b 0xE0 ≡ p → eqb b 0xED ≡ q → leb b 0xEC ≡ r → due table b ≡ least_second b to most_second b ∷ trailing ∷ []
      by true q r e f l = rw (eqb-true b 0xE0 e)
      by false true r e f l = rw (eqb-true b 0xED f)
      by false false true e f l =
          let x = eqb-false b 0xE0 e in
          let y = leb-true b 0xEC l in
          rw (above_range 0x00 0x7F b (omega arith), above_range 0xC2 0xDF b (omega arith), above_range 0xE0 0xE0 b (omega arith), in_range 0xE1 0xEC b (omega arith) (omega arith), least_plain (omega arith) (omega arith), most_plain (omega arith) (omega arith))
      by false false false e f l =
          let x = eqb-false b 0xED f in
          let y = leb-false b 0xEC l in
          rw (above_range 0x00 0x7F b (omega arith), above_range 0xC2 0xDF b (omega arith), above_range 0xE0 0xE0 b (omega arith), above_range 0xE1 0xEC b (omega arith), above_range 0xED 0xED b (omega arith), in_range 0xEE 0xEF b (omega arith) (omega arith), least_plain (omega arith) (omega arith), most_plain (omega arith) (omega arith))

  pub due_four : 0xF0 ≤ b → b ≤ 0xF4 → due table b ≡ least_second b to most_second b ∷ trailing ∷ trailing ∷ []
  unfolding due
  due_four h g = by (eqb b 0xF0) (eqb b 0xF4) refl refl
    where
      by : (p q : Bool) → eqb b 0xF0 ≡ p → eqb b 0xF4 ≡ q → due table b ≡ least_second b to most_second b ∷ trailing ∷ trailing ∷ []
      by true q e f = rw (eqb-true b 0xF0 e)
      by false true e f = rw (eqb-true b 0xF4 f)
      by false false e f =
          let x = eqb-false b 0xF0 e in
          let y = eqb-false b 0xF4 f in
          rw (above_range 0x00 0x7F b (omega arith), above_range 0xC2 0xDF b (omega arith), above_range 0xE0 0xE0 b (omega arith), above_range 0xE1 0xEC b (omega arith), above_range 0xED 0xED b (omega arith), above_range 0xEE 0xEF b (omega arith), above_range 0xF0 0xF0 b (omega arith), in_range 0xF1 0xF3 b (omega arith) (omega arith), least_plain (omega arith) (omega arith), most_plain (omega arith) (omega arith))

  pub due_past : 0xF4 < b → due table b ≡ nothing ∷ []
  unfolding due
  due_past h = rw (above_range 0x00 0x7F b (omega arith), above_range 0xC2 0xDF b (omega arith), above_range 0xE0 0xE0 b (omega arith), above_range 0xE1 0xEC b (omega arith), above_range 0xED 0xED b (omega arith), above_range 0xEE 0xEF b (omega arith), above_range 0xF0 0xF0 b (omega arith), above_range 0xF1 0xF3 b (omega arith), above_range 0xF4 0xF4 b (omega arith))

-- bytes in ranges

pub begins_length : (rs : List Range) (s : List ℕ) → begins rs s ≡ true → length rs ≤ length s
unfolding begins
begins_length [] s e = omega arith
begins_length (r ∷ rs) [] e = clash e refl
begins_length (r ∷ rs) (b ∷ s) e = let h = begins_length rs s (both_true (inside r b) (begins rs s) e).1 in omega arith

pub begins_more : (r : Range) (rs : List Range) (s : List ℕ) → begins (r ∷ rs) s ≡ both (begins (r ∷ []) s) (begins rs (drop 1 s))
unfolding begins
begins_more r rs [] = refl
begins_more r rs (b ∷ s) = rw (both_right (inside r b))

-- nothing begins with a range that has no byte
pub begins_nothing : (s : List ℕ) → begins (nothing ∷ []) s ≡ false
unfolding begins
begins_nothing [] = refl
begins_nothing (b ∷ s) = rw (nothing_inside b)
