use Rattle.page_list_check.proofs.Order.{run_none, run_more, run_stops, run_all}
use native.Mathlib.Omega.{arith}
use Rattle.page_list_check.proofs.columns.run_end.Goals as goal

pub loop-i-init : goal.loop-i-init
loop-i-init c = run_none c.args.pages.now

pub returns-then-word-c : goal.returns-then-word-c
returns-then-word-c c = run_stops c.args.pages.now c.loop-i.invariant c.loop-i-test.true c.word.ensures c.if-word-c.true

pub loop-i-preserved : goal.loop-i-preserved
loop-i-preserved c = run_more c.args.pages.now c.loop-i.invariant c.loop-i-test.true c.word.ensures c.if-word-c.false

pub returns : goal.returns
returns c = omega (arith, run_all c.args.pages.now c.loop-i.invariant c.loop-i-test.false)
