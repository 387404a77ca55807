use mathlib.Core.Path.{refl}
use Rattle.page_list_check.proofs.Runs.{run_fits}
use Rattle.page_list_check.proofs.ColumnLaws.{swept_none, swept_more, swept_refused, swept_all}
use native.Mathlib.Omega.{arith}
use Rattle.page_list_check.proofs.columns.columns_check.Goals as goal

pub loop-i-init : goal.loop-i-init
loop-i-init c = swept_none

pub overflow_mul-part-in-loop-i : goal.overflow_mul-part-in-loop-i
overflow_mul-part-in-loop-i c = omega (arith, run_fits c.args.pages.now c.loop-i.i _ _ c.loop-i.invariant.inside c.run_end-end.ensures)

pub slice_bounds-part-end : goal.slice_bounds-part-end
slice_bounds-part-end c = omega (arith, run_fits c.args.pages.now c.loop-i.i _ _ c.loop-i.invariant.inside c.run_end-end.ensures)

pub returns-then-number-ne0 : goal.returns-then-number-ne0
returns-then-number-ne0 c = let both = swept_refused c.loop-i.invariant c.loop-i-test.true c.run_end-end.ensures refl c.column_row-row.ensures c.column_check-sum.ensures c.if-number-ne0.true in
    record { ordered_value = both.0; all_summed = both.1 }

pub loop-i-preserved : goal.loop-i-preserved
loop-i-preserved c = swept_more c.loop-i.invariant c.loop-i-test.true c.run_end-end.ensures refl c.column_row-row.ensures c.column_check-sum.ensures c.if-number-ne0.false (omega (arith, c.loop-i.invariant.long))

pub returns : goal.returns
returns c = let both = swept_all c.loop-i.invariant c.loop-i-test.false in
    record { ordered_value = both.0; all_summed = both.1 }
