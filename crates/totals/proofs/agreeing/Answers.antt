use Prim.Native.Nat.{◌-◌, ◌<◌, ◌≤◌}
use mathlib.Core.Path.{sym, ap, subst, ◌∙◌}
use lib.ListN.{get_or, set}
use Rattle.rows.specs.Words.{most_fields}
use Rattle.rows.specs.declared.ColumnRow.{ColumnRow}
use Rattle.totals.specs.Totals.{agrees}
use Rattle.totals.proofs.TotalLaws.{Noted, noted_none, noted_other, noted_more, noted_all}
use Rattle.totals.proofs.agreeing.Goals as goal

pub loop-i-init : goal.loop-i-init
loop-i-init c = noted_none c.min-i.ensures

pub loop-i-preserved-then-f-lt-MOST_FIELDS : goal.loop-i-preserved-then-f-lt-MOST_FIELDS
loop-i-preserved-then-f-lt-MOST_FIELDS c = let row = c.column_row-column.ensures in
    subst (λ (r : ColumnRow). Noted c.args.entries c.args.columns.now c.args.n c.args.sums.now (c.loop-i.i - 1) (set c.loop-i.marks r.field.0 c.agrees.result)) (sym row)
    (noted_more c.loop-i.invariant c.loop-i-test.true (subst (λ (r : ColumnRow). r.field.0 < most_fields) row c.if-f-lt-MOST_FIELDS.true) (c.agrees.ensures ∙ ap (λ (r : ColumnRow). agrees c.args.entries r.column_type (get_or c.args.sums.now (c.loop-i.i - 1) 0)) row))

pub loop-i-preserved : goal.loop-i-preserved
loop-i-preserved c = noted_other c.loop-i.invariant c.loop-i-test.true (subst (λ (r : ColumnRow). most_fields ≤ r.field.0) c.column_row-column.ensures c.if-f-lt-MOST_FIELDS.false)

pub returns : goal.returns
returns c = noted_all c.loop-i.invariant c.loop-i-test.false
