use Prim.Native.Nat.{◌-◌}
use Rattle.frames.proofs.Loops.{reached_refused, reached_counted}
use Rattle.clusters.proofs.ClusterLaws.{Summed, summed_none, summed_rule, summed_more, record_fits}
use mathlib.Core.Path.{sym, ap, ◌∙◌}
use native.Mathlib.Omega.{arith}
use borrow.Author.Rules.{rules}
use Rattle.clusters.proofs.cluster.scan_clusters.Goals as goal
use Rattle.wire.specs.Answers.{as_step}

pub loop-i-init : goal.loop-i-init
loop-i-init c = summed_none

pub overflow_add-sum : goal.overflow_add-sum
overflow_add-sum c = let a = c.args in
    let few = record_fits a.carried a.strict a.file c.loop-i.sum a.s.now c.loop-i.at (sym c.cluster_record.ensures ∙ ap as_step c.in-Ok.is) in
    omega arith

pub loop-i-preserved : goal.loop-i-preserved
loop-i-preserved c = summed_more c.loop-i.invariant c.loop-i-test.true (sym c.cluster_record.ensures ∙ ap as_step c.in-Ok.is)

pub returns-in-Err : goal.returns-in-Err
returns-in-Err c = rw (reached_refused c.loop-i.invariant.reached c.loop-i-test.true (summed_rule c.loop-i.invariant (sym c.cluster_record.ensures ∙ ap as_step c.in-Err.is)), c.fault_in_item.ensures)

pub returns : goal.returns
returns c = reached_counted c.loop-i.invariant.reached c.loop-i-test.false
