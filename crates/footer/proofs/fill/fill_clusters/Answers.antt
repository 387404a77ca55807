use Prim.Native.Nat.{◌+◌, ◌*◌, ◌-◌, ◌≤◌}
use mathlib.Core.Path.{sym, ap, ◌∙◌}
use native.Mathlib.Omega.{arith}
use borrow.Author.Rules.{rules}
use lib.ListN.{length}
use Rattle.frames.proofs.Loops.{Filled, filled_none, filled_all}
use Rattle.rows.specs.Words.{cluster_width, cluster_words}
use Rattle.clusters.proofs.PlaceLaws.{starts_inside}
use Rattle.footer.proofs.FillLaws.{item, filled_never, filled_next}
use Rattle.footer.proofs.fill.fill_clusters.Goals as goal
use Rattle.wire.specs.Answers.{as_step}

pub loop-i-init : goal.loop-i-init
loop-i-init c = filled_none

pub cluster_at-row-requires : goal.cluster_at-row-requires
cluster_at-row-requires c = let head = sym c.record_head.ensures ∙ ap as_step c.in-Ok.is in
    omega (arith, starts_inside _ _ head)

pub loop-i-preserved : goal.loop-i-preserved
loop-i-preserved c = let room : cluster_width * c.loop-i.i + cluster_width ≤ length c.loop-i.table = let k = c.loop-i.invariant.holds.long in omega arith in
    filled_next c.args.carried c.args.strict c.args.file c.loop-i.invariant c.requires.file_value c.loop-i-test.true (sym c.record_head.ensures ∙ ap as_step c.in-Ok.is) c.up_to.ensures c.cluster_at-row.ensures room c.put_cluster.ensures c.put_cluster.auto.table

pub shape_of-table-in-Err : goal.shape_of-table-in-Err
shape_of-table-in-Err c = c.loop-i.invariant.holds.long

pub returns-in-Err : goal.returns-in-Err
returns-in-Err c = absurd (filled_never c.args.carried c.args.strict c.args.file c.loop-i.invariant c.requires.file_value c.loop-i-test.true (sym c.record_head.ensures ∙ ap as_step c.in-Err.is))

pub shape_of-table : goal.shape_of-table
shape_of-table c = c.loop-i.invariant.holds.long

pub returns : goal.returns
returns c = filled_all c.loop-i.invariant c.loop-i-test.false
