use Prim.Native.Nat.{◌-◌}
use mathlib.Core.Path.{sym, ap, ◌∙◌}
use native.Mathlib.Omega.{arith}
use Rattle.frames.specs.Frames.{record_of}
use Rattle.frames.proofs.Loops.{Reached, reached_none, reached_more, reached_refused, reached_counted}
use Rattle.rows.specs.Words.{column_width, column_words}
use Rattle.records.specs.Records.{column}
use Rattle.header_lists.proofs.LaidLaws.{Laid, laid_none, laid_more}
use Rattle.header_lists.proofs.KeptLaws.{kept_rows, kept_refused}
use borrow.Author.Rules.{rules}
use Rattle.header_lists.proofs.scan_columns.Goals as goal
use Rattle.wire.specs.Answers.{as_step}

pub loop-i-init : goal.loop-i-init
unfolding reached_none
loop-i-init c = (reached_none, laid_none)

pub loop-i-preserved : goal.loop-i-preserved
unfolding reached_more
loop-i-preserved c = let m = c.loop-i.invariant in
    (reached_more m.0 c.loop-i-test.true (sym c.column_record.ensures ∙ ap as_step c.in-Ok.is), laid_more c.in-Ok.row m.1 m.0.count c.put_column.ensures c.put_column.auto.table)

pub shape_of-rows-in-Err : goal.shape_of-rows-in-Err
shape_of-rows-in-Err c = c.loop-i.invariant.1.long

pub returns-in-Err : goal.returns-in-Err
returns-in-Err c = let e = reached_refused c.loop-i.invariant.0 c.loop-i-test.true (sym c.column_record.ensures ∙ ap as_step c.in-Err.is) in
    record { result_value = rw (e, c.fault_in_item.ensures); kept = kept_refused e }

pub shape_of-rows : goal.shape_of-rows
shape_of-rows c = c.loop-i.invariant.1.long

pub returns : goal.returns
returns c = let m = c.loop-i.invariant in
    record { result_value = reached_counted m.0 c.loop-i-test.false; kept = kept_rows m.0 c.loop-i-test.false column_width column_words m.1 }
