use Prim.Native.Nat.{◌-◌}
use mathlib.Core.Path.{sym, ap, ◌∙◌}
use native.Mathlib.Omega.{arith}
use Rattle.page_figures.proofs.ColumnSums.{Written, columns_none, columns_never, columns_ready, columns_more, columns_all}
use borrow.Author.Rules.{rules}
use Rattle.page_figures.proofs.sums.sum_columns.Goals as goal
use Rattle.wire.specs.Answers.{as_step}

pub loop-i-init : goal.loop-i-init
loop-i-init c = columns_none

pub sum_pages-f-requires : goal.sum_pages-f-requires
sum_pages-f-requires c = let r = columns_ready c.loop-i.invariant c.loop-i-test.true c.requires.0 c.column_row-row.ensures (sym c.page_list_head.ensures ∙ ap as_step c.in-Ok.is) in
    let k = r.1 in
    (rw c.up_to.ensures r.0, omega arith)

pub overflow_mul-from : goal.overflow_mul-from
overflow_mul-from c = let few = c.requires.2 in let t = c.loop-i-test.true in omega arith

pub overflow_add-total : goal.overflow_add-total
overflow_add-total c = let r = (columns_ready c.loop-i.invariant c.loop-i-test.true c.requires.0 c.column_row-row.ensures (sym c.page_list_head.ensures ∙ ap as_step c.in-Ok.is)).1 in omega arith

pub loop-i-smaller : goal.loop-i-smaller
loop-i-smaller c = let t = c.loop-i-test.true in omega arith

pub loop-i-preserved : goal.loop-i-preserved
loop-i-preserved c = columns_more c.loop-i.invariant c.loop-i-test.true c.requires.0 c.column_row-row.ensures (sym c.page_list_head.ensures ∙ ap as_step c.in-Ok.is) _ _ (rw (← c.up_to.ensures) c.sum_pages-f.ensures) c.requires.1 c.put_words.ensures c.put_words.auto.table

pub shape_of-figures-in-Err : goal.shape_of-figures-in-Err
shape_of-figures-in-Err c = absurd (columns_never c.loop-i.invariant c.loop-i-test.true c.requires.0 c.column_row-row.ensures (sym c.page_list_head.ensures ∙ ap as_step c.in-Err.is))

pub returns-in-Err : goal.returns-in-Err
returns-in-Err c = absurd (columns_never c.loop-i.invariant c.loop-i-test.true c.requires.0 c.column_row-row.ensures (sym c.page_list_head.ensures ∙ ap as_step c.in-Err.is))

pub shape_of-figures : goal.shape_of-figures
shape_of-figures c = c.loop-i.invariant.holds.long

pub returns : goal.returns
returns c = columns_all c.loop-i.invariant c.loop-i-test.false
