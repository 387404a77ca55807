use Rattle.rows.specs.Tables.{cluster_row}
use Rattle.writing.specs.Footer.{cluster_item}
use Rattle.writing.proofs.Items.{passed_all}
use Rattle.footer_check.proofs.Rows.{summed_none, summed_refused, summed_fits, summed_more}
use native.Mathlib.Omega.{arith}
use Rattle.footer_check.proofs.items.clusters_number.Goals as goal

pub loop-i-init : goal.loop-i-init
loop-i-init c = summed_none c.args.carried c.args.file c.args.clusters.now _

pub returns-then-number-ne0 : goal.returns-then-number-ne0
returns-then-number-ne0 c = summed_refused c.args.carried c.args.file c.args.clusters.now c.loop-i.invariant c.cluster_row-row.ensures c.cluster_number-number.ensures c.loop-i-test.true c.if-number-ne0.true

pub overflow_add-sum : goal.overflow_add-sum
overflow_add-sum c = omega (arith, summed_fits c.args.carried c.args.file c.args.clusters.now c.loop-i.invariant c.cluster_row-row.ensures c.cluster_number-number.ensures c.if-number-ne0.false)

pub loop-i-preserved : goal.loop-i-preserved
loop-i-preserved c = summed_more c.args.carried c.args.file c.args.clusters.now c.loop-i.invariant c.cluster_row-row.ensures c.cluster_number-number.ensures c.loop-i-test.true c.if-number-ne0.false

pub returns : goal.returns
returns c = passed_all (cluster_item c.args.carried c.args.file) cluster_row c.args.clusters.now c.loop-i.invariant.passes c.loop-i-test.false
