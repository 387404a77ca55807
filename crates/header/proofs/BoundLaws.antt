-- In an accepted header every parent and every column's field is below the count of fields, and a column's bits are a number of two bytes.
use Prim.Native.Nat.{ℕ, ◌<◌}
use mathlib.Core.Path.{◌≡◌}
use mathlib.Core.Bool.{Bool}
use mathlib.Core.List.{List, [], ◌∷◌, map}
use native.Mathlib.Omega.{arith}
use lib.ListN.{length, get_or, take, length-map}
use Rattle.wire.specs.Reading.{found}
use Rattle.frames.specs.Frames.{record_of, at_most}
use Rattle.numbers.specs.Lists.{Each}
use Rattle.numbers.proofs.Lists.{each_map, each_at}
use Rattle.frames.proofs.Loops.{list_each, record_found}
use Rattle.records.specs.Records.{field, column}
use Rattle.rows.specs.Words.{most_fields, most_columns}
use Rattle.rows.specs.declared.FieldRow.{FieldRow}
use Rattle.rows.specs.declared.ColumnRow.{ColumnRow}
use Rattle.records.proofs.Bounds.{field_parent, Bytes, take_bytes, column_numbers}
use Rattle.parents.proofs.DarkLaws.{Owned}
use Rattle.header.specs.Header.{field_list, column_list}

-- of every row

pub parents_below : (strict : Bool) (s : List ℕ) (at : ℕ) {rows : List FieldRow} {p : ℕ} → field_list strict s at ≡ found rows p → Each (λ (r : FieldRow). r.head.parent.0 < length rows) rows
parents_below strict s at =
    list_each (λ n (r : FieldRow). r.head.parent.0 < n) strict (at_most most_fields) (λ n _. record_of strict (field n)) s at
    (λ n _ stop from x p. record_found (λ (r : FieldRow). r.head.parent.0 < n) strict (field n) (take stop s) from (λ inner start q. field_parent n _ start))

pub columns_below : (strict : Bool) (n : ℕ) (s : List ℕ) (at : ℕ) {rows : List ColumnRow} {p : ℕ} → column_list strict n s at ≡ found rows p → Each (λ (r : ColumnRow). r.field.0 < n) rows
columns_below strict n s at =
    list_each (λ _ (r : ColumnRow). r.field.0 < n) strict (at_most most_columns) (λ _ _. record_of strict (column n)) s at
    (λ _ _ stop from x p. record_found (λ (r : ColumnRow). r.field.0 < n) strict (column n) (take stop s) from (λ inner start q e. (column_numbers n _ start e).0))

pub bits_below : (strict : Bool) (n : ℕ) (s : List ℕ) (at : ℕ) {rows : List ColumnRow} {p : ℕ} → Bytes s → column_list strict n s at ≡ found rows p → Each (λ (r : ColumnRow). r.bits < 65536) rows
bits_below strict n s at b =
    list_each (λ _ (r : ColumnRow). r.bits < 65536) strict (at_most most_columns) (λ _ _. record_of strict (column n)) s at
    (λ _ _ stop from x p. record_found (λ (r : ColumnRow). r.bits < 65536) strict (column n) (take stop s) from (λ inner start q e. (column_numbers n (take inner (take stop s)) start e).1 (take_bytes inner (take stop s) (take_bytes stop s b))))

-- as facts of the words

pub map_below : {A : Type 0} (f : A → ℕ) (n : ℕ) (rows : List A) → Each (λ r. f r < n) rows → (i : ℕ) → i < length rows → get_or (map f rows) i 0 < n
map_below f n rows e i h = each_at (λ x. x < n) (map f rows) 0 i (each_map (λ x. x < n) f rows e) (omega (arith, h, length-map rows f))

-- the columns hang on fields below n
pub each_owned : (n : ℕ) (rows : List ColumnRow) → Each (λ (r : ColumnRow). r.field.0 < n) rows → Owned n rows
each_owned n [] e = tt
each_owned n (r ∷ rows) e = (e.0, each_owned n rows e.1)
