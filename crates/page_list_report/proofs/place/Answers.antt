use Prim.Native.Nat.{◌/◌, ◌≤◌}
use mathlib.Core.Path.{sym, ap, ◌∙◌}
use native.Mathlib.Omega.{arith}
use lib.ListN.{length}
use Rattle.figure_rules.specs.Report.{Report, figure_width}
use Rattle.figure_rules.proofs.Tests.{placed_short, placed_past, placed_added}
use Rattle.page_list_report.proofs.place.Goals as goal

pub returns-then-report-columns : goal.returns-then-report-columns
returns-then-report-columns c = let a = c.args in
    let e = placed_short a.columns a.figures.now a.counts a.report.now c.if-report-columns.true in
    record { answers = ap (λ (r : Report). r.answer) (sym e); leaves = ap (λ (r : Report). r.words) (sym e) }

pub returns-then-not-all_fit : goal.returns-then-not-all_fit
returns-then-not-all_fit c = let a = c.args in
    let enough : a.columns ≤ length a.report.now / figure_width = omega (arith, c.if-report-columns.false) in
    let e = placed_past a.columns a.figures.now a.counts a.report.now enough (sym c.all_fit.ensures ∙ c.if-not-all_fit.true) in
    record { answers = ap (λ (r : Report). r.answer) (sym e); leaves = ap (λ (r : Report). r.words) (sym e) }

pub add_all-requires : goal.add_all-requires
add_all-requires c = let long = c.requires.0 in
    let rows = c.if-report-columns.false in
    (omega arith, sym c.all_fit.ensures ∙ c.if-not-all_fit.false)

pub returns : goal.returns
returns c = let a = c.args in
    let enough : a.columns ≤ length a.report.now / figure_width = omega (arith, c.if-report-columns.false) in
    let e = placed_added a.columns a.figures.now a.counts a.report.now enough (sym c.all_fit.ensures ∙ c.if-not-all_fit.false) in
    record { answers = ap (λ (r : Report). r.answer) (sym e); leaves = c.add_all.ensures ∙ ap (λ (r : Report). r.words) (sym e) }
