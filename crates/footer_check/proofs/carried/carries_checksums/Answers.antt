use Rattle.footer_check.proofs.AlikeLaws.{none_carried, carried_first}
use mathlib.Core.Bool.{not}
use mathlib.Core.Path.{ap, ◌∙◌}
use Prim.Native.Nat.{ℕ}
use lib.Dec.{eqb}
use Rattle.rows.specs.Words.{no_checksum}
use Rattle.footer_check.proofs.carried.carries_checksums.Goals as goal

pub returns-then-clusters-lt-CLUSTER_WORDS : goal.returns-then-clusters-lt-CLUSTER_WORDS
returns-then-clusters-lt-CLUSTER_WORDS c = none_carried c.args.clusters.now c.if-clusters-lt-CLUSTER_WORDS.true

pub returns : goal.returns
returns c = ap (λ (k : ℕ). not (eqb k no_checksum)) c.word.ensures ∙ carried_first c.args.clusters.now c.if-clusters-lt-CLUSTER_WORDS.false
