use mathlib.Core.Path.{sym, ap, ◌∙◌}
use mathlib.Core.List.{List}
use native.Mathlib.Omega.{arith}
use borrow.Author.Tests.{leb-true}
use Rattle.numbers.specs.Rows.{over}
use Rattle.column_pages.specs.ColumnPages.{pages_of}
use Rattle.page_list.specs.Tables.{page_table}
use Rattle.rows.specs.declared.PageRow.{PageRow}
use Rattle.column_pages.proofs.ColumnLaws.{payload_items, payload_refused}
use borrow.Author.Rules.{rules}
use Rattle.page_list.proofs.fill.fill_payload.Goals as goal
use Rattle.wire.specs.Answers.{as_step}

pub fill_columns-requires : goal.fill_columns-requires
fill_columns-requires c = let a = c.args in
    let e = (sym c.column_list_head.ensures ∙ ap as_step c.in-Ok.is) in
    let i = payload_items a.strict a.file a.columns.now a.n a.s.now e c.up_to.ensures c.requires.s_value in
    let room = c.requires.s_in_bounds in
    let same = ap pages_of i.1 in
    record { file_value = i.0; file_in_bounds = omega arith }

pub returns-in-Ok : goal.returns-in-Ok
returns-in-Ok c = let a = c.args in
    let e = (sym c.column_list_head.ensures ∙ ap as_step c.in-Ok.is) in
    let i = payload_items a.strict a.file a.columns.now a.n a.s.now e c.up_to.ensures c.requires.s_value in
    c.fill_columns.ensures ∙ ap (λ (rows : List (List PageRow)). over (page_table rows) a.table.now) (sym i.1)

pub returns-in-Err : goal.returns-in-Err
returns-in-Err c = let a = c.args in
    let e = payload_refused a.strict a.file a.columns.now a.n a.s.now (sym c.column_list_head.ensures ∙ ap as_step c.in-Err.is) in
    absurd (omega (arith, leb-true 1 0 (rw e at c.requires.s_value)))
