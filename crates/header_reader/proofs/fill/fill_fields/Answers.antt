use Prim.Native.Nat.{◌+◌, ◌*◌, ◌-◌, ◌≤◌}
use mathlib.Core.Path.{◌≡◌, refl, ap, ◌∙◌}
use native.Mathlib.Omega.{arith}
use lib.ListN.{length, get_or}
use Rattle.numbers.specs.Rows.{put}
use Rattle.rows.specs.Words.{field_width, field_words}
use Rattle.rows.specs.Tables.{field_row, first_rows}
use Rattle.rows.specs.declared.FieldRow.{FieldRow}
use Rattle.rows.proofs.TableLaws.{Holds, holds_none}
use Rattle.header_reader.proofs.FillLaws.{first_more}
use borrow.Author.Rules.{rules}
use Rattle.header_reader.proofs.fill.fill_fields.Goals as goal

pub loop-i-init : goal.loop-i-init
unfolding first_rows
loop-i-init c = (holds_none, omega arith)

pub overflow_cast-marks : goal.overflow_cast-marks
overflow_cast-marks c = omega (arith, c.type_inv.marks c.loop-i.i)

pub loop-i-preserved : goal.loop-i-preserved
unfolding field_words
loop-i-preserved c = let l = c.loop-i in
    let room : field_width * l.i + field_width ≤ length l.table = let k = l.invariant.0.long in omega arith in (
      first_more field_row c.args.field_rows.now l.i field_width (λ _ _. refl) l.invariant.0 room
          (c.put_field.ensures ∙ ap (λ (r : FieldRow). put l.table (field_width * l.i) (field_words (get_or c.args.marks.now l.i 0) r)) c.field_row-row.ensures) c.put_field.auto.table,
      omega arith,
    )

pub shape_of-table : goal.shape_of-table
shape_of-table c = c.loop-i.invariant.0.long

pub returns : goal.returns
returns c = let e : c.loop-i.i ≡ c.args.n = omega arith in rw (← e) c.loop-i.invariant.0.rows
