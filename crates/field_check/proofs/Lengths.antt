-- The length of a field's record, and of all of them.
use Prim.Native.Nat.{ℕ, ◌+◌, ◌≤◌, ◌<◌, ◌^◌}
use mathlib.Core.List.{List}
use mathlib.Core.Bool.{Bool, true, false}
use mathlib.Core.Path.{◌≡◌, refl, sym, ap, ◌∙◌}
use native.Mathlib.Omega.{arith}
use borrow.Author.Tests.{lt-ltb}
use Rattle.numbers.specs.Choice.{pick}
use Rattle.records.specs.Records.{repetitive}
use Rattle.rows.specs.Tables.{field_row}
use Rattle.rows.specs.declared.FieldRow.{FieldRow}
use Rattle.tree.specs.Shape.{NoVerdict}
use Rattle.writing.specs.Piece.{Piece, put, text, nothing, record_piece}
use Rattle.writing.specs.Header.{repetition_piece, field_head_piece, field_texts_piece, field_piece, field_item}
use Rattle.writing.proofs.Items.{items, items_none, items_more}
use Rattle.verdicts.specs.Length.{capped}
use Rattle.verdicts.proofs.Capped.{capped_small, capped_more, grown_twice}

-- a repetition is never refused: its place has 64 bits
pub repetition_good : (flags n : ℕ) → n < 2 ^ 64 → (repetition_piece flags n).number ≡ 0
unfolding repetition_piece
repetition_good flags n h = go (repetitive flags)
  where
    go : (b : Bool) → (pick b (put 8 64 NoVerdict n) nothing).number ≡ 0
    go true = rw (lt-ltb n (2 ^ 64) h)
    go false = refl

-- its length does not hang on its value
repetition_long : (flags n : ℕ) → (repetition_piece flags n).long ≡ (repetition_piece flags 0).long
unfolding repetition_piece
repetition_long flags n = go (repetitive flags)
  where
    go : (b : Bool) → (pick b (put 8 64 NoVerdict n) nothing).long ≡ (pick b (put 8 64 NoVerdict 0) nothing).long
    go true = refl
    go false = refl

module _ (strings : List ℕ) (n : ℕ) (r : FieldRow) where
  field_long : (record_piece (field_piece strings n r)).long
      ≡ 36 + (repetition_piece r.head.flags 0).long + r.texts.name.len + r.texts.type_name.len + r.texts.type_alias.len + r.texts.description.len
  unfolding field_piece field_head_piece field_texts_piece text
  field_long = omega (arith, repetition_long r.head.flags r.head.repetition)

  -- a length that grows by a field's numbers and by each of its strings
  pub with_field_long : (total h r₁ r₂ r₃ r₄ r₅ : ℕ) → h ≡ 36 + (repetition_piece r.head.flags 0).long
      → r₁ ≡ capped (total + h) → r₂ ≡ capped (r₁ + r.texts.name.len) → r₃ ≡ capped (r₂ + r.texts.type_name.len)
      → r₄ ≡ capped (r₃ + r.texts.type_alias.len) → r₅ ≡ capped (r₄ + r.texts.description.len)
      → r₅ ≡ capped (total + (record_piece (field_piece strings n r)).long)
  with_field_long total h r₁ r₂ r₃ r₄ r₅ e₀ e₁ e₂ e₃ e₄ e₅ =
      let two = grown_twice total h _ r₁ r₂ e₁ e₂ in
      let three = grown_twice total _ _ r₂ r₃ two e₃ in
      let four = grown_twice total _ _ r₃ r₄ three e₄ in
      let five = grown_twice total _ _ r₄ r₅ four e₅ in
      let same : h + r.texts.name.len + r.texts.type_name.len + r.texts.type_alias.len + r.texts.description.len ≡ (record_piece (field_piece strings n r)).long
      = omega (arith, e₀, field_long) in
      five ∙ ap (λ (k : ℕ). capped (total + k)) same

-- a loop has counted i of n rows
pub record Counted (table : List ℕ) (n i total : ℕ) : Type 0 where
  pub most : i ≤ n
  pub is : (strings : List ℕ) (k : ℕ) → total ≡ capped (items (field_item strings k) field_row table i).long

module _ (table : List ℕ) (n : ℕ) where
  pub counted_none : Counted table n 0 0
  counted_none =
      record {
        most = omega arith;
        is = λ strings k. capped_small 0 (omega arith) ∙ ap (λ (p : Piece). capped p.long) (sym (items_none (field_item strings k) field_row table));
      }

  pub counted_more : {i total more : ℕ} → Counted table n i total → i < n
      → ((strings : List ℕ) (k : ℕ) → more ≡ capped (total + (record_piece (field_piece strings k (field_row table i))).long)) → Counted table n (i + 1) more
  counted_more {i} m less e =
      record {
        most = omega (arith, less);
        is = λ strings k.
            let one = (record_piece (field_piece strings k (field_row table i))).long in
            e strings k ∙ ap (λ (t : ℕ). capped (t + one)) (m.is strings k) ∙ capped_more (items (field_item strings k) field_row table i).long one
            ∙ ap (λ (p : Piece). capped p.long) (sym (items_more (field_item strings k) field_row table i));
      }

  pub counted_all : {i total : ℕ} → Counted table n i total → n ≤ i → (strings : List ℕ) (k : ℕ) → total ≡ capped (items (field_item strings k) field_row table n).long
  counted_all {i} m h strings k = let same : i ≡ n = omega (arith, h, m.most) in m.is strings k ∙ ap (λ (j : ℕ). capped (items (field_item strings k) field_row table j).long) same
