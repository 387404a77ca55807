use Rattle.column_pages.proofs.ColumnLaws.{head_passes, payload_items, payload_refused}
use mathlib.Core.Path.{sym, ap, ◌∙◌}
use mathlib.Core.List.{List}
use native.Mathlib.Omega.{arith}
use borrow.Author.Tests.{leb-true}
use Rattle.numbers.specs.Rows.{over}
use Rattle.rows.specs.declared.PageRow.{PageRow}
use Rattle.figure_rules.specs.Report.{list_figures}
use borrow.Author.Rules.{rules}
use Rattle.page_figures.proofs.sums.sum_payload.Goals as goal
use Rattle.wire.specs.Answers.{as_step}

pub sum_columns-requires : goal.sum_columns-requires
sum_columns-requires c = let a = c.args in
    let e = (sym c.column_list_head.ensures ∙ ap as_step c.in-Ok.is) in
    let i = payload_items a.strict a.file a.columns.now a.n a.s.now e c.up_to-inner.ensures c.requires.0 in
    let room = c.requires.1 in
    let k = head_passes a.strict a.file a.columns.now a.n a.s.now e in
    let same = k.1 in
    (i.0, omega arith, k.0)

pub returns-in-Ok : goal.returns-in-Ok
returns-in-Ok c = let a = c.args in
    let e = (sym c.column_list_head.ensures ∙ ap as_step c.in-Ok.is) in
    let i = payload_items a.strict a.file a.columns.now a.n a.s.now e c.up_to-inner.ensures c.requires.0 in
    c.sum_columns.ensures ∙ ap (λ (rows : List (List PageRow)). over (list_figures rows) a.figures.now) (sym i.1)

pub returns-in-Err : goal.returns-in-Err
returns-in-Err c = let a = c.args in
    let e = payload_refused a.strict a.file a.columns.now a.n a.s.now (sym c.column_list_head.ensures ∙ ap as_step c.in-Err.is) in
    absurd (omega (arith, leb-true 1 0 (rw e at c.requires.0)))
