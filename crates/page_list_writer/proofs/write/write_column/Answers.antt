use mathlib.Core.Path.{sym, ◌∙◌}
use Rattle.writing.specs.Rows.{page_rows_in}
use Rattle.page_list_check.proofs.Runs.{run_long}
use Rattle.stores.proofs.Storing.{stored_list}
use native.Mathlib.Omega.{arith}
use Rattle.page_list_writer.proofs.write.write_column.Goals as goal

pub overflow_sub-next : goal.overflow_sub-next
overflow_sub-next c = omega (arith, c.store_8-items.ensures.onward, (c.write_pages-written.ensures.by_index 0 0).onward)

pub returns : goal.returns
returns c = let counted = c.write_pages-written.ensures.count_value in record { count_value = counted; by_index = λ file bits before. rw (run_long c.args.column.0 (page_rows_in c.args.pages.now) ∙ sym counted) (stored_list _ _ c.store_8-items.ensures (c.write_pages-written.ensures.by_index file bits) c.store_list_head.ensures) }
