-- The words of the fields' rows, by the fields' numbers.
use Prim.Native.Nat.{ℕ, ◌/◌, ◌%◌, ◌≤◌, ◌<◌}
use mathlib.Core.List.{List, []}
use mathlib.Core.Bool.{Bool, true, false}
use mathlib.Core.Path.{◌≡◌, refl, sym, ap, ◌∙◌}
use native.Mathlib.Omega.{arith}
use borrow.Author.Tests.{lt-ltb, ltb-true, ltb-false, eq-eqb, ne_eqb}
use lib.Dec.{ltb}
use lib.ListN.{length, get_or, length-map, get_or-map, get_or-eq_default}
use Rattle.numbers.proofs.Choice.{both_false}
use Rattle.rows.specs.Words.{field_width, field_of}
use Rattle.rows.specs.Tables.{row_words, field_row}
use Rattle.rows.proofs.RowLaws.{row_none}
use Rattle.rows.proofs.FirstRows.{rows_length, row_at}
use Rattle.rows.specs.declared.FieldRow.{FieldRow}
use Rattle.records.specs.Records.{aliased, aliasable}
use Rattle.header.specs.Header.{flags_of}
use Rattle.header.specs.Tables.{parents_of}
use Rattle.writing.specs.Rows.{all_rows}

module _ (table : List ℕ) where
  abbrev rows : List FieldRow
  rows = all_rows field_row field_width table

  pub count : length rows ≡ length table / field_width
  count = rows_length field_row table (length table / field_width)

  module _ (f : ℕ) where
    -- a field that there is not has the row without words
    row_of : get_or rows f (field_of []) ≡ field_row table f
    row_of = go (ltb f (length table / field_width)) refl
      where
        go : (b : Bool) → ltb f (length table / field_width) ≡ b → get_or rows f (field_of []) ≡ field_row table f
        go true e = row_at field_row table (length table / field_width) f (field_of []) (ltb-true f (length table / field_width) e)
        go false e =
            let past : length table / field_width ≤ f = ltb-false f (length table / field_width) e in
            get_or-eq_default rows (field_of []) (omega (arith, past, count)) ∙ sym (ap field_of (row_none field_width table f past))

    pub parent_word : get_or (parents_of rows) f 0 ≡ get_or (row_words field_width table f) 2 0
    parent_word = get_or-map (λ (r : FieldRow). r.head.parent.0) rows f (field_of []) ∙ ap (λ (r : FieldRow). r.head.parent.0) row_of

    flags_word : get_or (flags_of rows) f 0 ≡ get_or (row_words field_width table f) 4 0
    flags_word = get_or-map (λ (r : FieldRow). r.head.flags) rows f (field_of []) ∙ ap (λ (r : FieldRow). r.head.flags) row_of

    -- a field that has the alias flag is there
    there : get_or (row_words field_width table f) 4 0 / 2 % 2 ≡ 1 → f < length (flags_of rows)
    there e = go (ltb f (length table / field_width)) refl
      where
        go : (b : Bool) → ltb f (length table / field_width) ≡ b → f < length (flags_of rows)
        go true t = omega (arith, ltb-true f (length table / field_width) t, length-map rows (λ (r : FieldRow). r.head.flags), count)
        go false t =
            let none = row_none field_width table f (ltb-false f (length table / field_width) t) in
            let z : 0 / 2 % 2 ≡ 1 = ap (λ (ws : List ℕ). get_or ws 4 0 / 2 % 2) (sym none) ∙ e in
            absurd (omega (arith, z))

    pub aliasable_good : get_or (row_words field_width table f) 4 0 / 2 % 2 ≡ 1 → 0 ≡ aliasable (flags_of rows) f
    aliasable_good e =
        let flag : aliased (get_or (flags_of rows) f 0) ≡ true = ap aliased flags_word ∙ eq-eqb _ _ e in
        rw (lt-ltb f (length (flags_of rows)) (there e), flag)

    pub aliasable_bad : (get_or (row_words field_width table f) 4 0 / 2 % 2 ≡ 1 → ⊥) → 14 ≡ aliasable (flags_of rows) f
    aliasable_bad e =
        let flag : aliased (get_or (flags_of rows) f 0) ≡ false = ap aliased flags_word ∙ ne_eqb _ _ e in
        rw (flag, both_false (ltb f (length (flags_of rows))))
