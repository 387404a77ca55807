use Prim.Native.Nat.{◌-◌, ◌<◌}
use mathlib.Core.Path.{refl, sym, ap, ◌∙◌}
use mathlib.Core.List.{[], ◌∷◌}
use native.Mathlib.Omega.{arith}
use Rattle.frames.specs.Frames.{record_of}
use Rattle.frames.proofs.Loops.{record_found, Reached, reached_none, reached_more, reached_refused, reached_counted}
use Rattle.rows.proofs.TableLaws.{Holds, holds_none, holds_set}
use Rattle.rows.specs.Words.{field_width, field_words}
use Rattle.rows.specs.declared.FieldRow.{FieldRow}
use Rattle.records.specs.Records.{field}
use Rattle.records.proofs.Bounds.{field_parent}
use Rattle.header_lists.proofs.LaidLaws.{Laid, laid_none, laid_more}
use Rattle.header_lists.proofs.KeptLaws.{kept_word, kept_rows, kept_refused}
use borrow.Author.Rules.{rules}
use Rattle.header_lists.proofs.scan_fields.Goals as goal
use Rattle.wire.specs.Answers.{as_step}

pub loop-i-init : goal.loop-i-init
unfolding reached_none
loop-i-init c = (reached_none, holds_none, holds_none, laid_none)

pub overflow_cast-parents : goal.overflow_cast-parents
overflow_cast-parents c = let a = c.args in
    let n = a.head.count in
    let few = c.requires.0 in
    let under = record_found (λ (r : FieldRow). r.head.parent.0 < n) a.strict (field n) a.s.now _ (λ stop from q. field_parent n _ from) (sym c.field_record.ensures ∙ ap as_step c.in-Ok.is) in
    omega arith

pub offset_bounds-parents-i : goal.offset_bounds-parents-i
offset_bounds-parents-i c = omega (arith, c.well_formed)

pub bounds-parents-i : goal.bounds-parents-i
bounds-parents-i c = omega (arith, c.requires)

pub offset_bounds-flags-i : goal.offset_bounds-flags-i
offset_bounds-flags-i c = omega (arith, c.well_formed)

pub bounds-flags-i : goal.bounds-flags-i
bounds-flags-i c = omega (arith, c.requires)

pub loop-i-preserved : goal.loop-i-preserved
unfolding reached_more
loop-i-preserved c = let l = c.loop-i in
    let m = l.invariant in
    let x = c.in-Ok.row in (
      reached_more m.0 c.loop-i-test.true (sym c.field_record.ensures ∙ ap as_step c.in-Ok.is),
      holds_set x (λ _ _. refl) refl m.1 m.0.count (omega (arith, c.requires)),
      holds_set x (λ _ _. refl) refl m.2 m.0.count (omega (arith, c.requires)),
      laid_more x m.3 m.0.count c.put_field.ensures c.put_field.auto.table,
    )

pub shape_of-parents-in-Err : goal.shape_of-parents-in-Err
shape_of-parents-in-Err c = c.loop-i.invariant.1.long

pub shape_of-flags-in-Err : goal.shape_of-flags-in-Err
shape_of-flags-in-Err c = c.loop-i.invariant.2.long

pub shape_of-rows-in-Err : goal.shape_of-rows-in-Err
shape_of-rows-in-Err c = c.loop-i.invariant.3.long

pub returns-in-Err : goal.returns-in-Err
returns-in-Err c = let e = reached_refused c.loop-i.invariant.0 c.loop-i-test.true (sym c.field_record.ensures ∙ ap as_step c.in-Err.is) in
    record { result_value = rw (e, c.fault_in_item.ensures); kept = kept_refused e; kept_2 = kept_refused e; kept_3 = kept_refused e }

pub shape_of-parents : goal.shape_of-parents
shape_of-parents c = c.loop-i.invariant.1.long

pub shape_of-flags : goal.shape_of-flags
shape_of-flags c = c.loop-i.invariant.2.long

pub shape_of-rows : goal.shape_of-rows
shape_of-rows c = c.loop-i.invariant.3.long

pub returns : goal.returns
returns c = let m = c.loop-i.invariant in
    let h = c.loop-i-test.false in
    record { result_value = reached_counted m.0 h; kept = kept_word m.0 h (λ (r : FieldRow). r.head.parent.0) m.1; kept_2 = kept_word m.0 h (λ (r : FieldRow). r.head.flags) m.2; kept_3 = kept_rows m.0 h field_width (field_words 0) m.3 }
