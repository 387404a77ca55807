use Prim.Native.Nat.{ℕ}
use mathlib.Core.Path.{refl, sym, ap, ◌∙◌}
use mathlib.Core.List.{List}
use native.Mathlib.Omega.{arith}
use lib.ListN.{get_or, length-set}
use Rattle.figure_rules.proofs.Adding.{added_none, added_rest, added_more, added_all, fits_at}
use Rattle.page_list_report.proofs.sums.add_all.Goals as goal

pub loop-k-init : goal.loop-k-init
loop-k-init c = (refl, sym (added_none c.args.figures.now c.args.report.now))

pub bounds-report-k : goal.bounds-report-k
bounds-report-k c = omega (arith, c.requires.0, c.loop-k.invariant.0)

pub overflow_add-report : goal.overflow_add-report
overflow_add-report c = let a = c.args in
    let l = c.loop-k in
    let inside = c.requires.0 in
    let fits = fits_at a.figures.now a.report.now l.k c.loop-k-test.true c.requires.0 c.requires.1 in
    let old = ap (λ (r : List ℕ). get_or r l.k 0) l.invariant.1 ∙ added_rest a.figures.now a.report.now l.k (omega arith) in
    omega (arith, fits, old)

pub bounds-report-k-in-loop-k : goal.bounds-report-k-in-loop-k
bounds-report-k-in-loop-k c = omega (arith, c.requires.0, c.loop-k.invariant.0)

pub loop-k-preserved : goal.loop-k-preserved
loop-k-preserved c = let a = c.args in
    let l = c.loop-k in
    let inside = c.requires.0 in
    (length-set l.report l.k _ ∙ l.invariant.0, added_more a.figures.now a.report.now l.k l.invariant.1 c.loop-k-test.true (omega arith))

pub shape_of-report : goal.shape_of-report
shape_of-report c = c.loop-k.invariant.0

pub returns : goal.returns
returns c = added_all c.args.figures.now c.args.report.now c.loop-k.k c.loop-k.invariant.1 (omega arith)
