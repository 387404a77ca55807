-- Rows in the order of their columns are the rows of each column, one after the other.
use Prim.Native.Nat.{ℕ, zero, suc, ◌+◌, ◌≤◌, ◌<◌}
use mathlib.Core.List.{List, [], ◌∷◌, flatten}
use mathlib.Core.Bool.{Bool, true, false}
use mathlib.Core.Path.{◌≡◌, refl, ap}
use native.Mathlib.Omega.{arith}
use lib.Dec.{ltb, leb, eqb}
use borrow.Author.Tests.{leb-true, ltb-true, eqb-true, eqb-false, le-leb, lt-ltb, ne_eqb}
use lib.ListN.{length, length-append}
use Rattle.numbers.proofs.Choice.{both_true}
use Rattle.writing.specs.Promises.{InOrderOfColumns}
use Rattle.writing.specs.declared.PageWords.{PageWords}
use Rattle.writing.specs.PageList.{of_column, by_column, in_column_order, pages_in}

-- what the order says of the first row
pub first_row : (n c : ℕ) (p : PageWords) (ps : List PageWords) → in_column_order n c (p ∷ ps) ≡ true
    → (c ≤ p.column) × (p.column < n) × (in_column_order n p.column ps ≡ true)
unfolding in_column_order
first_row n c p ps e =
    let (a, rest) = both_true (leb c p.column) _ e in
    let (b, later) = both_true (ltb p.column n) _ rest in
    (leb-true c p.column a, ltb-true p.column n b, later)

from_later : (n c d : ℕ) (rows : List PageWords) → c ≤ d → in_column_order n d rows ≡ true → in_column_order n c rows ≡ true
unfolding in_column_order
from_later n c d [] less e = refl
from_later n c d (p ∷ ps) less e =
    let (a, rest) = both_true (leb d p.column) _ e in
    let first : leb c p.column ≡ true = le-leb c p.column (omega (arith, leb-true d p.column a)) in
    rw first rest

pub none_below : (n c d : ℕ) (rows : List PageWords) → c < d → in_column_order n d rows ≡ true → of_column c rows ≡ []
unfolding of_column
none_below n c d [] less e = refl
none_below n c d (p ∷ ps) less e =
    let (a, b, later) = first_row n d p ps e in
    let other : eqb p.column c ≡ false = ne_eqb p.column c (λ z. absurd (omega (arith, z))) in
    rw other (none_below n c p.column ps (omega arith) later)

skipped : (c k : ℕ) (p : PageWords) (ps : List PageWords) → p.column < c → by_column c k (p ∷ ps) ≡ by_column c k ps
unfolding by_column of_column flatten
skipped c zero p ps less = refl
skipped c (suc k) p ps less =
    let other : eqb p.column c ≡ false = ne_eqb p.column c (λ z. absurd (omega (arith, z))) in
    rw other (ap (λ (l : List (List PageWords)). of_column c ps ∷ l) (skipped (suc c) k p ps (omega arith)))

no_rows : (c k : ℕ) → flatten (by_column c k []) ≡ []
unfolding by_column of_column flatten
no_rows c zero = refl
no_rows c (suc k) = no_rows (suc c) k

column_by : (n c k : ℕ) (p : PageWords) (ps : List PageWords) → ((rows : List PageWords) → in_column_order n (suc c) rows ≡ true → flatten (by_column (suc c) k rows) ≡ rows)
    → (in_column_order n c ps ≡ true → flatten (by_column c (suc k) ps) ≡ ps) → in_column_order n c (p ∷ ps) ≡ true → (b : Bool) → eqb p.column c ≡ b
    → flatten (by_column c (suc k) (p ∷ ps)) ≡ p ∷ ps
unfolding by_column of_column flatten in_column_order
column_by n c k p ps later rest e true same =
    let (a, b, order) = first_row n c p ps e in
    let column : p.column ≡ c = eqb-true p.column c same in
    rw (same, skipped (suc c) k p ps (omega arith)) (ap (λ (l : List PageWords). p ∷ l) (rest (from_later n c p.column ps a order)))
column_by n c k p ps later rest e false other =
    let (a, b, order) = first_row n c p ps e in
    let differs : p.column ≡ c → ⊥ = eqb-false p.column c other in
    let none : of_column c ps ≡ [] = none_below n c p.column ps (omega arith) order in
    let first : leb (suc c) p.column ≡ true = le-leb (suc c) p.column (omega arith) in
    let second : ltb p.column n ≡ true = lt-ltb p.column n b in
    rw (other, none) (later (p ∷ ps) (rw (first, second) order))

column_first : (n c k : ℕ) → ((rows : List PageWords) → in_column_order n (suc c) rows ≡ true → flatten (by_column (suc c) k rows) ≡ rows) → (rows : List PageWords)
    → in_column_order n c rows ≡ true → flatten (by_column c (suc k) rows) ≡ rows
column_first n c k later [] e = no_rows c (suc k)
column_first n c k later (p ∷ ps) e = column_by n c k p ps later (column_first n c k later ps) e (eqb p.column c) refl

pub in_order_lem : (n c k : ℕ) → c + k ≡ n → (rows : List PageWords) → in_column_order n c rows ≡ true → flatten (by_column c k rows) ≡ rows
unfolding by_column flatten
in_order_lem n c zero sum [] e = refl
in_order_lem n c zero sum (p ∷ ps) e = let (a, b, later) = first_row n c p ps e in absurd (omega arith)
in_order_lem n c (suc k) sum rows e = column_first n c k (in_order_lem n (suc c) k (omega arith)) rows e

pub pages_long : (pss : List (List PageWords)) → length (flatten pss) ≡ pages_in pss
unfolding flatten pages_in
pages_long [] = refl
pages_long (ps ∷ pss) = omega (arith, length-append ps (flatten pss), pages_long pss)

pub columns_long : (c k : ℕ) (rows : List PageWords) → length (by_column c k rows) ≡ k
unfolding by_column flatten
columns_long c zero rows = refl
columns_long c (suc k) rows = ap suc (columns_long (suc c) k rows)

pub in_order_of_columns : InOrderOfColumns
unfolding InOrderOfColumns
in_order_of_columns n rows order = in_order_lem n 0 n (omega arith) rows order
