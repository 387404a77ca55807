-- Rows and words in front of a table.
use Prim.Native.Nat.{ℕ, zero, suc, ◌+◌, ◌*◌, ◌≤◌}
use mathlib.Core.Path.{◌≡◌, refl, sym, ap, ◌∙◌}
use mathlib.Core.List.{List, [], ◌∷◌}
use native.Mathlib.Numerals.{add-one}
use native.Mathlib.Omega.{arith}
use lib.ListN.{length, drop, take, length-append}
use lib.Seq.{take_at}
use Rattle.numbers.specs.Rows.{put, flat, over}
use Rattle.rows.specs.Tables.{first_rows}
use Rattle.rows.proofs.TableLaws.{Holds, holds_more, over_put, flat_length, flat_is}

first_count : {A : Type 0} (row : List ℕ → ℕ → A) (table : List ℕ) (n : ℕ) → length (first_rows row table n) ≡ n
unfolding first_rows
first_count row table zero = refl
first_count row table (suc n) = length-append (first_rows row table n) (row table n ∷ []) ∙ ap (λ (k : ℕ). k + 1) (first_count row table n) ∙ add-one n

-- one row more of another table
pub first_more : {A : Type 0} {w : ℕ → A → List ℕ} (row : List ℕ → ℕ → A) (from : List ℕ) (i width : ℕ) {old table next : List ℕ} → ((i : ℕ) (a : A) → length (w i a) ≡ width)
    → Holds w (first_rows row from i) old table → width * i + width ≤ length table → next ≡ put table (width * i) (w i (row from i)) → length next ≡ length table
    → Holds w (first_rows row from (i + 1)) old next
unfolding first_rows
first_more row from i width each h fits stored kept = rw (add-one i) (holds_more (row from i) width each h (first_count row from i) fits stored kept)

-- words put at the front
pub put_front : (table words : List ℕ) → length words ≤ length table → put table 0 words ≡ over words table
put_front table words fits = over_put [] words table (omega arith)

-- the words of rows in front of a table
pub flat_wide : {A : Type 0} (w : A → List ℕ) (width : ℕ) → ((a : A) → length (w a) ≡ width) → (rows : List A) → length (flat w rows) ≡ width * length rows
flat_wide w width each rows = ap length (sym (flat_is w 0 rows)) ∙ flat_length (λ _. w) width (λ _. each) 0 rows

pub front : {A : Type 0} (w : A → List ℕ) (width : ℕ) → ((a : A) → length (w a) ≡ width) → (rows : List A) (old : List ℕ) {table : List ℕ} {n : ℕ} → n ≡ length rows → table ≡ over (flat w rows) old
    → (take (width * n) table ≡ flat w rows) × (width * n ≤ length table)
front w width each rows old {table} {n} count is =
    let size : length (flat w rows) ≡ width * n = flat_wide w width each rows ∙ ap (λ (k : ℕ). width * k) (sym count) in
    let long : length table ≡ length (flat w rows) + length (drop (length (flat w rows)) old) = ap length is ∙ length-append (flat w rows) (drop (length (flat w rows)) old) in
    (ap (take (width * n)) is ∙ take_at (flat w rows) _ (width * n) size, omega arith)
