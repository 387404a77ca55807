use native.Mathlib.Omega.{arith}
use Rattle.header_check.proofs.Parents.{few_rows, parent_small, filled_none, filled_long, filled_more, filled_all}
use Rattle.header_check.proofs.chains.all_parents.Goals as goal

pub loop-i-init : goal.loop-i-init
loop-i-init c = filled_none c.args.fields.now

pub overflow_cast-all : goal.overflow_cast-all
overflow_cast-all c = omega (arith, parent_small c.args.fields.now c.requires c.loop-i.i c.loop-i-test.true, c.word.ensures)

pub bounds-all-i : goal.bounds-all-i
bounds-all-i c = omega (arith, few_rows c.args.fields.now c.requires, c.loop-i-test.true)

pub loop-i-preserved : goal.loop-i-preserved
loop-i-preserved c = filled_more c.args.fields.now c.loop-i.invariant (omega (arith, filled_long c.args.fields.now c.loop-i.i c.loop-i.invariant, few_rows c.args.fields.now c.requires, c.loop-i-test.true)) c.word.ensures

pub returns : goal.returns
returns c = filled_all c.args.fields.now c.loop-i.invariant (omega arith)
