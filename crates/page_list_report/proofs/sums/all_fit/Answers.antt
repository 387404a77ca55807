use mathlib.Core.Path.{sym}
use native.Mathlib.Omega.{arith}
use Rattle.figure_rules.proofs.Adding.{fits_none, fits_more, fits_all, fits_not}
use Rattle.page_list_report.proofs.sums.all_fit.Goals as goal

pub loop-i-init : goal.loop-i-init
loop-i-init c = fits_none c.args.figures.now c.args.report.now

pub overflow_sub-figures : goal.overflow_sub-figures
overflow_sub-figures c = omega (arith, c.type_inv.figures c.loop-i.i)

pub bounds-report-i : goal.bounds-report-i
bounds-report-i c = omega (arith, c.requires)

pub returns-then-figures-i : goal.returns-then-figures-i
returns-then-figures-i c = let a = c.args in
    sym (fits_not a.figures.now a.report.now c.loop-i.i c.loop-i-test.true c.requires (omega (arith, c.type_inv.figures c.loop-i.i)))

pub loop-i-preserved : goal.loop-i-preserved
loop-i-preserved c = let a = c.args in
    let inside = c.requires in
    fits_more a.figures.now a.report.now c.loop-i.i c.loop-i.invariant c.loop-i-test.true (omega arith) (omega (arith, c.type_inv.figures c.loop-i.i))

pub returns : goal.returns
returns c = sym (fits_all c.args.figures.now c.args.report.now c.loop-i.i c.loop-i.invariant (omega arith))
