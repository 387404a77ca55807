use Prim.Native.Nat.{◌-◌, ◌*◌, ◌%◌, ◌^◌, ◌≤◌}
use mathlib.Core.Path.{◌≡◌, sym, ap, subst, ◌∙◌}
use mathlib.Core.Bool.{true}
use native.Mathlib.Omega.{arith}
use lib.ListN.{length, take, drop, length-drop}
use Rattle.numbers.specs.Rows.{flat, over}
use Rattle.numbers.proofs.Parts.{rest_of}
use Rattle.wire.specs.Reading.{counted, accepted, rows_of}
use Rattle.wire.specs.Answers.{as_step}
use Rattle.rows.specs.Words.{page_width, page_words}
use Rattle.rows.specs.Tables.{column_row}
use Rattle.rows.specs.declared.ColumnRow.{ColumnRow}
use Rattle.pages.specs.Pages.{pages}
use Rattle.page_list.proofs.FillLaws.{Laid, laid_none, laid_room, laid_count, laid_more, laid_refused, laid_all}
use borrow.Author.Rules.{rules}
use Rattle.page_list.proofs.fill.fill_columns.Goals as goal

pub loop-i-init : goal.loop-i-init
loop-i-init c = laid_none

pub overflow_mul-from : goal.overflow_mul-from
overflow_mul-from c = let f = c.loop-i.invariant.fits in omega arith

pub offset_bounds-table-from : goal.offset_bounds-table-from
offset_bounds-table-from c = let f = c.loop-i.invariant.fits in omega arith

pub slice_bounds-fill_page_list-count : goal.slice_bounds-fill_page_list-count
slice_bounds-fill_page_list-count c = let f = c.loop-i.invariant.fits in omega arith

pub slice_bounds-fill_page_list-start : goal.slice_bounds-fill_page_list-start
slice_bounds-fill_page_list-start c = let f = c.loop-i.invariant.fits in omega arith

pub fill_page_list-requires : goal.fill_page_list-requires
fill_page_list-requires c = let room = laid_room c.loop-i.invariant c.loop-i-test.true c.requires.file_value c.requires.file_in_bounds in
    let l = length-drop (page_width * c.loop-i.total) c.loop-i.table in
    let fits : page_width * length (rows_of (pages c.args.strict c.args.file c.loop-i.i ((column_row c.args.columns.now c.loop-i.i).bits % 2 ^ 16) c.loop-i.total c.args.s.now c.loop-i.at)) ≤ length (take (length c.loop-i.table - page_width * c.loop-i.total) (drop (page_width * c.loop-i.total) c.loop-i.table)) = rw (rest_of (page_width * c.loop-i.total) c.loop-i.table) (omega arith) in
    let both = subst (λ (r : ColumnRow). (accepted (pages c.args.strict c.args.file c.loop-i.i (r.bits % 2 ^ 16) c.loop-i.total c.args.s.now c.loop-i.at) ≡ true) × (page_width * length (rows_of (pages c.args.strict c.args.file c.loop-i.i (r.bits % 2 ^ 16) c.loop-i.total c.args.s.now c.loop-i.at)) ≤ length (take (length c.loop-i.table - page_width * c.loop-i.total) (drop (page_width * c.loop-i.total) c.loop-i.table)))) (sym c.column_row-row.ensures)
    (room.0, fits) in
    record { at_value = both.0; at_in_bounds = both.1 }

pub overflow_add-total : goal.overflow_add-total
overflow_add-total c = let room = laid_room c.loop-i.invariant c.loop-i-test.true c.requires.file_value c.requires.file_in_bounds in let k = laid_count c.loop-i.invariant c.loop-i-test.true (sym (ap as_step c.in-Ok.is) ∙ c.fill_page_list.ensures.result_value ∙ ap (λ (r : ColumnRow). counted (pages c.args.strict c.args.file c.loop-i.i (r.bits % 2 ^ 16) c.loop-i.total c.args.s.now c.loop-i.at)) c.column_row-row.ensures) in omega arith

pub loop-i-preserved : goal.loop-i-preserved
loop-i-preserved c = laid_more c.loop-i.invariant c.loop-i-test.true c.requires.file_value c.requires.file_in_bounds c.fill_page_list.new.table (sym (ap as_step c.in-Ok.is) ∙ c.fill_page_list.ensures.result_value ∙ ap (λ (r : ColumnRow). counted (pages c.args.strict c.args.file c.loop-i.i (r.bits % 2 ^ 16) c.loop-i.total c.args.s.now c.loop-i.at)) c.column_row-row.ensures)
    (c.fill_page_list.ensures.table_after ∙ ap (λ (r : ColumnRow). over (flat page_words (rows_of (pages c.args.strict c.args.file c.loop-i.i (r.bits % 2 ^ 16) c.loop-i.total c.args.s.now c.loop-i.at))) (take (length c.loop-i.table - page_width * c.loop-i.total) (drop (page_width * c.loop-i.total) c.loop-i.table))) c.column_row-row.ensures) c.fill_page_list.auto.table

pub shape_of-table-in-Err : goal.shape_of-table-in-Err
shape_of-table-in-Err c = absurd (laid_refused c.loop-i.invariant c.loop-i-test.true c.requires.file_value c.requires.file_in_bounds (sym (ap as_step c.in-Err.is) ∙ c.fill_page_list.ensures.result_value ∙ ap (λ (r : ColumnRow). counted (pages c.args.strict c.args.file c.loop-i.i (r.bits % 2 ^ 16) c.loop-i.total c.args.s.now c.loop-i.at)) c.column_row-row.ensures))

pub returns-in-Err : goal.returns-in-Err
returns-in-Err c = absurd (laid_refused c.loop-i.invariant c.loop-i-test.true c.requires.file_value c.requires.file_in_bounds (sym (ap as_step c.in-Err.is) ∙ c.fill_page_list.ensures.result_value ∙ ap (λ (r : ColumnRow). counted (pages c.args.strict c.args.file c.loop-i.i (r.bits % 2 ^ 16) c.loop-i.total c.args.s.now c.loop-i.at)) c.column_row-row.ensures))

pub shape_of-table : goal.shape_of-table
shape_of-table c = c.loop-i.invariant.long

pub returns : goal.returns
returns c = laid_all c.loop-i.invariant c.loop-i-test.false
