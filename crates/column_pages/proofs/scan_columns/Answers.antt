use Prim.Native.Nat.{◌-◌, ◌%◌, ◌^◌}
use mathlib.Core.Path.{sym, ap, ◌∙◌}
use native.Mathlib.Omega.{arith}
use Rattle.wire.specs.Reading.{mapped}
use Rattle.wire.specs.Answers.{as_step}
use Rattle.rows.specs.declared.ColumnRow.{ColumnRow}
use Rattle.pages.specs.Pages.{pages}
use Rattle.pages.specs.Answers.{tally_of}
use Rattle.column_pages.proofs.ScanLaws.{Scanned, scanned_none, scanned_fits, scanned_more, scanned_refused, scanned_all}
use borrow.Author.Rules.{rules}
use Rattle.column_pages.proofs.scan_columns.Goals as goal

pub loop-i-init : goal.loop-i-init
loop-i-init c = scanned_none

pub overflow_add-total : goal.overflow_add-total
overflow_add-total c = let few = scanned_fits c.loop-i.invariant c.loop-i-test.true (sym (ap as_step c.in-Ok.is) ∙ c.scan_page_list.ensures ∙ ap (λ (r : ColumnRow). mapped tally_of (pages c.args.strict c.args.file c.loop-i.i (r.bits % 2 ^ 16) c.loop-i.total c.args.s.now c.loop-i.at)) c.column_row-row.ensures) in omega arith

pub loop-i-preserved : goal.loop-i-preserved
loop-i-preserved c = let p = c.requires in let l = c.loop-i.invariant.holds.long in scanned_more c.loop-i.invariant c.loop-i-test.true (sym (ap as_step c.in-Ok.is) ∙ c.scan_page_list.ensures ∙ ap (λ (r : ColumnRow). mapped tally_of (pages c.args.strict c.args.file c.loop-i.i (r.bits % 2 ^ 16) c.loop-i.total c.args.s.now c.loop-i.at)) c.column_row-row.ensures) (omega arith)

pub returns-in-Err : goal.returns-in-Err
returns-in-Err c = let e = scanned_refused c.loop-i.invariant c.loop-i-test.true (sym (ap as_step c.in-Err.is) ∙ c.scan_page_list.ensures ∙ ap (λ (r : ColumnRow). mapped tally_of (pages c.args.strict c.args.file c.loop-i.i (r.bits % 2 ^ 16) c.loop-i.total c.args.s.now c.loop-i.at)) c.column_row-row.ensures) in
    rw e (rw c.fault_in_item.ensures at c.no_sums.ensures)

pub returns : goal.returns
returns c = scanned_all c.loop-i.invariant c.loop-i-test.false
