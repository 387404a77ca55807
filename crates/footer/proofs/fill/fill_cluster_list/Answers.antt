use mathlib.Core.Bool.{false}
use borrow.Author.Tests.{leb-true}
use Rattle.wire.specs.Reading.{found, accepted}
use Rattle.frames.specs.Frames.{record_of, list_of, list_head, at_most}
use Rattle.frames.proofs.Loops.{list_accepted, list_rows, list_count_lem}
use Rattle.rows.specs.Words.{most_clusters}
use Rattle.clusters.specs.Clusters.{cluster, entries_of, cluster_list}
use mathlib.Core.Path.{◌≡◌, sym, ◌∙◌}
use native.Mathlib.Omega.{arith}
use borrow.Author.Rules.{rules}
use Rattle.footer.proofs.fill.fill_cluster_list.Goals as goal

pub fill_clusters-requires : goal.fill_clusters-requires
fill_clusters-requires c = let a = c.args in
    let head : list_head (at_most most_clusters) a.s.now a.at ≡ found c.in-Ok.head c.in-Ok.stop = simp (← c.list_head_at_most.ensures, c.in-Ok.is) in
    let p = c.requires.at_value in
    let count = list_count_lem a.strict (at_most most_clusters) (λ _ before. record_of a.strict (cluster a.carried a.file (entries_of before))) a.s.now a.at head p in
    record { file_value = rw c.up_to.ensures (list_accepted a.strict (at_most most_clusters) (λ _ before. record_of a.strict (cluster a.carried a.file (entries_of before))) a.s.now a.at head p); count_in_bounds = omega arith }

pub returns-in-Ok : goal.returns-in-Ok
returns-in-Ok c = let a = c.args in
    let head : list_head (at_most most_clusters) a.s.now a.at ≡ found c.in-Ok.head c.in-Ok.stop = simp (← c.list_head_at_most.ensures, c.in-Ok.is) in
    rw (list_rows a.strict (at_most most_clusters) (λ _ before. record_of a.strict (cluster a.carried a.file (entries_of before))) a.s.now a.at head c.requires.at_value, ← c.up_to.ensures) c.fill_clusters.ensures

pub returns-in-Err : goal.returns-in-Err
unfolding list_of
returns-in-Err c = let a = c.args in
    let e : accepted (cluster_list a.carried a.strict a.file a.s.now a.at) ≡ false = simp (← c.list_head_at_most.ensures, c.in-Err.is) in
    absurd (omega (arith, leb-true 1 0 (sym e ∙ c.requires.at_value)))
