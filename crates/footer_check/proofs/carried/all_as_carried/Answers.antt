use Prim.Native.Nat.{ℕ}
use mathlib.Core.Path.{◌≡◌, sym, ap, ◌∙◌}
use mathlib.Core.Bool.{Bool, not}
use lib.Dec.{eqb}
use Rattle.numbers.specs.Choice.{pick}
use Rattle.rows.specs.Words.{no_checksum}
use Rattle.footer_check.proofs.AlikeLaws.{alike_none, alike_more, alike_not, alike_all}
use Rattle.footer_check.proofs.carried.all_as_carried.Goals as goal

as_row : (carried : Bool) {k w : ℕ} {r b : Bool} → r ≡ pick carried (not (eqb w no_checksum)) (eqb w no_checksum) → w ≡ k → r ≡ b → pick carried (not (eqb k no_checksum)) (eqb k no_checksum) ≡ b
as_row carried e is t = sym (e ∙ ap (λ (j : ℕ). pick carried (not (eqb j no_checksum)) (eqb j no_checksum)) is) ∙ t

pub loop-i-init : goal.loop-i-init
loop-i-init c = alike_none c.args.carried c.args.clusters.now _

pub loop-i-preserved : goal.loop-i-preserved
loop-i-preserved c = alike_more c.args.carried c.args.clusters.now c.loop-i.invariant c.loop-i-test.true (as_row c.args.carried c.as_carried.ensures c.word-checksum.ensures c.if-not-as_carried.false)

pub returns-then-not-as_carried : goal.returns-then-not-as_carried
returns-then-not-as_carried c = alike_not c.args.carried c.args.clusters.now c.loop-i.invariant c.loop-i-test.true (as_row c.args.carried c.as_carried.ensures c.word-checksum.ensures c.if-not-as_carried.true)

pub returns : goal.returns
returns c = alike_all c.args.carried c.args.clusters.now c.loop-i.invariant c.loop-i-test.false
