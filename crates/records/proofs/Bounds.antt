-- The numbers of a record that was found: a parent and a column's field are below the count of fields, and a column's bits are a
-- number of two bytes.
use Prim.Native.Nat.{ℕ, zero, suc, ◌+◌, ◌^◌, ◌<◌}
use mathlib.Core.Path.{◌≡◌}
use mathlib.Core.List.{List, [], ◌∷◌}
use native.Mathlib.Omega.{arith}
use borrow.Author.Tests.{ltb-true}
use lib.ListN.{length, get_or, take}
use lib.Dec.{ltb, leb}
use Rattle.numbers.specs.Numbers.{little}
use Rattle.wire.specs.declared.Kind.TheVariants.{Number}
use Rattle.wire.specs.Reading.{Step, found, Rule, ◌>>=◌, give, fault, number, judged, tested, below, listed}
use Rattle.wire.proofs.Laws.{passed, pick_found, bound, judged_found}
use Rattle.records.specs.Records.{field_head, field_texts, field, column, repetition, sized}
use Rattle.rows.specs.declared.FieldHead.{FieldHead}
use Rattle.rows.specs.declared.FieldRow.{FieldRow}
use Rattle.rows.specs.declared.ColumnRow.{ColumnRow}

-- a number that was found below a limit
pub below_limit : (limit at : ℕ) (x : Step ℕ) {v p : ℕ} → judged (below limit) at x ≡ found v p → v < limit
below_limit limit at x {v} e = ltb-true v limit (passed (ltb v limit) 13 0 (judged_found (below limit) at x e).1).0

-- a field's parent

module _ (n : ℕ) (s : List ℕ) where
  rest : ℕ → ℕ → ℕ → Rule FieldHead
  rest version type-version parent = do
    role ← tested 2 (listed 4)
    flags ← tested 2 (listed 3)
    times ← repetition flags
    give (record { field_version = version; type_version = type-version; parent = record { 0 = parent }; role = role; flags = flags; repetition = times })

  Below : FieldHead → ℕ → Type 0
  Below h _ = h.parent.0 < n

  head_parent : (at : ℕ) {h : FieldHead} {p : ℕ} → field_head n s at ≡ found h p → h.parent.0 < n
  unfolding field_head rest Below
  head_parent at {h} {p} =
      bound Below (number 4) (λ v. number 4 >>= (λ t. tested 4 (below n) >>= rest v t)) s at (λ v q _.
      bound Below (number 4) (λ t. tested 4 (below n) >>= rest v t) s q (λ t q₂ _.
      bound Below (tested 4 (below n)) (rest v t) s q₂ (λ parent q₃ e.
      bound Below (tested 2 (listed 4)) (λ role. tested 2 (listed 3) >>= (λ flags. repetition flags >>= (λ times. give (record { field_version = v; type_version = t; parent = record { 0 = parent }; role = role; flags = flags; repetition = times })))) s q₃ (λ role q₄ _.
      bound Below (tested 2 (listed 3)) (λ flags. repetition flags >>= (λ times. give (record { field_version = v; type_version = t; parent = record { 0 = parent }; role = role; flags = flags; repetition = times }))) s q₄ (λ flags q₅ _.
      bound Below (repetition flags) (λ times. give (record { field_version = v; type_version = t; parent = record { 0 = parent }; role = role; flags = flags; repetition = times })) s q₅ (λ times q₆ _ g.
      let same : ◌≡◌ {A = FieldHead} (record { field_version = v; type_version = t; parent = record { 0 = parent }; role = role; flags = flags; repetition = times }) h = cc in
      rw (← same) (below_limit n q₂ (number 4 s q₂) e)))))))

  pub field_parent : (at : ℕ) {r : FieldRow} {p : ℕ} → field n s at ≡ found r p → r.head.parent.0 < n
  unfolding field
  field_parent at {r} {p} =
      bound (λ r _. r.head.parent.0 < n) (field_head n) (λ h. field_texts >>= (λ t. give (record { head = h; texts = t }))) s at (λ h q e.
      bound (λ r _. r.head.parent.0 < n) field_texts (λ t. give (record { head = h; texts = t })) s q (λ t q₂ _ g.
      let same : ◌≡◌ {A = FieldRow} (record { head = h; texts = t }) r = cc in
      rw (← same) (head_parent at e)))

-- every element is a byte
abbrev pub Bytes : List ℕ → Type 0
Bytes s = (i : ℕ) → get_or s i 0 < 256

pub little_below : (k : ℕ) (s : List ℕ) (at : ℕ) → Bytes s → little k s at < 256 ^ k
unfolding little
little_below zero s at b = omega arith
little_below (suc k) s at b =
    let first = b at in
    let later = little_below k s (at + 1) b in
    omega arith

pub take_bytes : (stop : ℕ) (s : List ℕ) → Bytes s → Bytes (take stop s)
take_bytes zero s b i = omega arith
take_bytes (suc stop) [] b i = omega arith
take_bytes (suc stop) (x ∷ s) b zero = b zero
take_bytes (suc stop) (x ∷ s) b (suc i) = take_bytes stop s (λ j. b (suc j)) i

number_below : (k : ℕ) (s : List ℕ) (at : ℕ) {v p : ℕ} → Bytes s → number k s at ≡ found v p → v < 256 ^ k
unfolding number
number_below k s at {v} {p} b e =
    let (_, was) = pick_found (leb (at + k) (length s)) (found (little k s at) (at + k)) (fault 7 Number at) v p e in
    let same : little k s at ≡ v = cc in
    rw same at (little_below k s at b)

-- a column's field and bits
pub column_numbers : (n : ℕ) (s : List ℕ) (at : ℕ) {r : ColumnRow} {p : ℕ} → column n s at ≡ found r p → (r.field.0 < n) × (Bytes s → r.bits < 65536)
unfolding column
column_numbers n s at {r} {p} =
    bound Good (number 2) (λ type. tested 2 (sized type) >>= (λ bits. tested 4 (below n) >>= (λ f. tested 4 (listed 7) >>= (λ flags. give (row type bits f flags))))) s at (λ type q _.
    bound Good (tested 2 (sized type)) (λ bits. tested 4 (below n) >>= (λ f. tested 4 (listed 7) >>= (λ flags. give (row type bits f flags)))) s q (λ bits q₂ small.
    bound Good (tested 4 (below n)) (λ f. tested 4 (listed 7) >>= (λ flags. give (row type bits f flags))) s q₂ (λ f q₃ inside.
    bound Good (tested 4 (listed 7)) (λ flags. give (row type bits f flags)) s q₃ (λ flags q₄ _ g.
    let same : row type bits f flags ≡ r = cc in
    rw (← same) (below_limit n q₂ (number 4 s q₂) inside, λ b. number_below 2 s q b (judged_found (sized type) q (number 2 s q) small).0)))))
  where
    Good : ColumnRow → ℕ → Type 0
    Good r _ = (r.field.0 < n) × (Bytes s → r.bits < 65536)

    row : ℕ → ℕ → ℕ → ℕ → ColumnRow
    row type bits f flags = record { column_type = type; bits = bits; field = record { 0 = f }; flags = flags }
