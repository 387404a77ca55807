use mathlib.Core.Path.{sym, ◌∙◌}
use native.Mathlib.Omega.{arith}
use Rattle.same_tables.proofs.Numbers.{all_start, all_not, all_rest, all_end}
use Rattle.same_tables.proofs.fields.same_fields.Goals as goal

pub loop-i-init : goal.loop-i-init
loop-i-init c = all_start _ _

pub loop-i-preserved : goal.loop-i-preserved
loop-i-preserved c = c.loop-i.invariant ∙ all_rest _ _ _ c.loop-i-test.true (sym c.same_field.ensures ∙ c.if-not-same_field.false)

pub returns-then-not-same_field : goal.returns-then-not-same_field
returns-then-not-same_field c = sym (c.loop-i.invariant ∙ all_not _ _ _ c.loop-i-test.true (sym c.same_field.ensures ∙ c.if-not-same_field.true))

pub returns : goal.returns
returns c = let n = c.args.count in
    sym (c.loop-i.invariant ∙ all_end _ n c.loop-i.i (omega arith))
