-- How a loop tells whether two lists of numbers are the same, and whether a test holds of all numbers below a count.
use Prim.Native.Nat.{ℕ, suc, ◌+◌, ◌-◌, ◌≤◌, ◌<◌}
use mathlib.Core.Path.{◌≡◌, refl, ap, ◌∙◌}
use mathlib.Core.Bool.{Bool, true, false}
use mathlib.Core.List.{List, [], ◌∷◌}
use native.Mathlib.Numerals.{add-one}
use native.Mathlib.Omega.{arith}
use lib.Dec.{eqb}
use Rattle.std.specs.Prelude.{nat_eq, ◌&&◌}
use Rattle.std.specs.Cmp.Lexicographic.{pointwise}
use Rattle.numbers.specs.Choice.{both}
use Rattle.rows.specs.Tables.{field_row, dark_mark}
use Rattle.rows.specs.declared.FieldRow.{FieldRow}
use Rattle.same_tables.specs.Same.{same_numbers, same_heads, same_strings, same_field, all_from}

and_both : (a b : Bool) → (a && b) ≡ both a b
and_both true b = refl
and_both false b = refl

-- the library's test of two lists, and the specification's
pub same_pointwise : (a b : List ℕ) → pointwise nat_eq a b ≡ same_numbers a b
unfolding same_numbers
same_pointwise [] [] = refl
same_pointwise [] (y ∷ ys) = refl
same_pointwise (x ∷ xs) [] = refl
same_pointwise (x ∷ xs) (y ∷ ys) = and_both (eqb x y) (pointwise nat_eq xs ys) ∙ ap (both (eqb x y)) (same_pointwise xs ys)

-- number i of those below n: the test fails, or the rest decides
module _ (test : ℕ → Bool) (n i : ℕ) (below : i < n) where
  left_over : n - i ≡ suc (n - (i + 1))
  left_over = omega (arith, below)

  pub all_not : test i ≡ false → all_from test (n - i) i ≡ false
  unfolding all_from
  all_not h = rw (left_over) (simp h)

  pub all_rest : test i ≡ true → all_from test (n - i) i ≡ all_from test (n - (i + 1)) (i + 1)
  unfolding all_from
  all_rest h = rw (left_over) (simp (h, add-one))

pub all_start : (test : ℕ → Bool) (n : ℕ) → all_from test n 0 ≡ all_from test (n - 0) 0
all_start test n = let e : n - 0 ≡ n = omega arith in rw e

pub all_end : (test : ℕ → Bool) (n i : ℕ) → n ≤ i → all_from test (n - i) i ≡ true
unfolding all_from
all_end test n i past = let e : n - i ≡ 0 = omega (arith, past) in rw e

-- a test of two rows that were read is that of the rows of the tables
pub field_is : (e f e' f' : List ℕ) (i : ℕ) {m n : ℕ} {a b : FieldRow} {r : Bool} → a ≡ field_row f i → b ≡ field_row f' i → m ≡ dark_mark f i → n ≡ dark_mark f' i
    → r ≡ both (same_heads a.head b.head) (both (same_strings e a.texts e' b.texts) (eqb m n)) → r ≡ same_field e f e' f' i
unfolding same_field
field_is e f e' f' i {m = m} {n = n} {a = a} {b = b} ea eb em en h =
    let x = field_row f i in
    let y = field_row f' i in
    h ∙ ap (λ (z : FieldRow). both (same_heads z.head b.head) (both (same_strings e z.texts e' b.texts) (eqb m n))) ea
    ∙ ap (λ (z : FieldRow). both (same_heads x.head z.head) (both (same_strings e x.texts e' z.texts) (eqb m n))) eb
    ∙ ap (λ (k : ℕ). both (same_heads x.head y.head) (both (same_strings e x.texts e' y.texts) (eqb k n))) em
    ∙ ap (λ (k : ℕ). both (same_heads x.head y.head) (both (same_strings e x.texts e' y.texts) (eqb (dark_mark f i) k))) en
