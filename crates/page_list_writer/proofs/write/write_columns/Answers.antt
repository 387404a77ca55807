use mathlib.Core.Path.{refl}
use Rattle.page_list_writer.proofs.Bytes.{columns_none, run_inside, columns_more, columns_all}
use native.Mathlib.Omega.{arith}
use Rattle.page_list_writer.proofs.write.write_columns.Goals as goal

pub loop-i-init : goal.loop-i-init
loop-i-init c = columns_none

pub overflow_add-first : goal.overflow_add-first
overflow_add-first c = omega (arith, run_inside c.loop-i.invariant c.loop-i-test.true refl c.write_column-written.ensures.count_value)

pub loop-i-preserved : goal.loop-i-preserved
loop-i-preserved c = columns_more c.loop-i.invariant c.loop-i-test.true refl c.write_column-written.ensures.count_value c.write_column-written.auto.out c.write_column-written.ensures.by_index

pub returns : goal.returns
returns c = record { lower_bound = c.loop-i.invariant.onward; stored = columns_all c.loop-i.invariant c.loop-i-test.false }
