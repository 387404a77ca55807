use lib.Seq.{length-take-le}
use mathlib.Core.Path.{sym, ◌∙◌}
use Rattle.page_list_check.proofs.WholeLaws.{count_fits, order_before, out_of_order, too_many_columns, column_refused, columns_inside, totals_last}
use Rattle.page_list_check.proofs.page_list_number.Goals as goal

pub returns-then-count-ne0 : goal.returns-then-count-ne0
returns-then-count-ne0 c = let a = c.args in order_before a.file a.entries a.parents.now a.flags.now a.columns.now a.pages.now a.n c.order_first.ensures (λ order. too_many_columns a.file a.entries a.parents.now a.flags.now a.columns.now a.pages.now a.n order c.at_most-count.ensures c.if-count-ne0.true)

pub columns_check-sums-requires : goal.columns_check-sums-requires
columns_check-sums-requires c = count_fits c.args.n c.at_most-count.ensures c.if-count-ne0.false

pub returns-then-number-ne0 : goal.returns-then-number-ne0
returns-then-number-ne0 c = let a = c.args in order_before a.file a.entries a.parents.now a.flags.now a.columns.now a.pages.now a.n c.order_first-then-number-ne0.ensures (λ order. column_refused a.file a.entries a.parents.now a.flags.now a.columns.now a.pages.now a.n order c.at_most-count.ensures c.if-count-ne0.false (c.columns_check-sums.ensures.all_summed order) c.if-number-ne0.true)

pub slice_bounds-elements-end : goal.slice_bounds-elements-end
slice_bounds-elements-end c = let a = c.args in let order = sym (c.columns_check-sums.ensures.ordered_value c.if-number-ne0.false) ∙ c.if-sums.true in columns_inside a.file a.entries a.parents.now a.flags.now a.columns.now a.pages.now a.n order c.at_most-count.ensures c.if-count-ne0.false (c.columns_check-sums.ensures.all_summed order) c.if-number-ne0.false

pub slice_bounds-totals_number-end : goal.slice_bounds-totals_number-end
slice_bounds-totals_number-end c = let a = c.args in let order = sym (c.columns_check-sums.ensures.ordered_value c.if-number-ne0.false) ∙ c.if-sums.true in sym (length-take-le _ _ (columns_inside a.file a.entries a.parents.now a.flags.now a.columns.now a.pages.now a.n order c.at_most-count.ensures c.if-count-ne0.false (c.columns_check-sums.ensures.all_summed order) c.if-number-ne0.false))

pub returns-then-sums : goal.returns-then-sums
returns-then-sums c = let a = c.args in let order = sym (c.columns_check-sums.ensures.ordered_value c.if-number-ne0.false) ∙ c.if-sums.true in totals_last a.file a.entries a.parents.now a.flags.now a.columns.now a.pages.now a.n order c.at_most-count.ensures c.if-count-ne0.false (c.columns_check-sums.ensures.all_summed order) c.if-number-ne0.false c.totals_number.ensures

pub returns : goal.returns
returns c = let a = c.args in out_of_order a.file a.entries a.parents.now a.flags.now a.columns.now a.pages.now a.n (sym (c.columns_check-sums.ensures.ordered_value c.if-number-ne0.false) ∙ c.if-sums.false)
