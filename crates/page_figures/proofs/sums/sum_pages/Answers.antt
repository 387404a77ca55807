use Prim.Native.Nat.{◌-◌}
use mathlib.Core.Path.{sym, ap, ◌∙◌}
use native.Mathlib.Omega.{arith}
use Rattle.frames.proofs.Loops.{reached_accepted}
use Rattle.page_figures.proofs.SumLaws.{Summed, summed_none, summed_fits, summed_more, summed_all}
use borrow.Author.Rules.{rules}
use Rattle.page_figures.proofs.sums.sum_pages.Goals as goal
use Rattle.wire.specs.Answers.{as_step}

pub loop-i-init : goal.loop-i-init
loop-i-init c = summed_none

pub overflow_add-elements : goal.overflow_add-elements
overflow_add-elements c = let p = c.requires.1 in omega (arith, (summed_fits c.loop-i.invariant (omega arith) (sym c.page_at.ensures.result_value ∙ ap as_step c.in-Ok.is)).0)

pub overflow_add-sizes : goal.overflow_add-sizes
overflow_add-sizes c = let p = c.requires.1 in omega (arith, (summed_fits c.loop-i.invariant (omega arith) (sym c.page_at.ensures.result_value ∙ ap as_step c.in-Ok.is)).1)

pub overflow_add-checksums : goal.overflow_add-checksums
overflow_add-checksums c = let p = c.requires.1 in let b = c.bit-checksums.ensures in omega (arith, (summed_fits c.loop-i.invariant (omega arith) (sym c.page_at.ensures.result_value ∙ ap as_step c.in-Ok.is)).2)

pub loop-i-preserved : goal.loop-i-preserved
loop-i-preserved c = rw c.bit-checksums.ensures (summed_more c.loop-i.invariant c.loop-i-test.true (sym c.page_at.ensures.result_value ∙ ap as_step c.in-Ok.is))

pub returns-in-Err : goal.returns-in-Err
returns-in-Err c = absurd (reached_accepted c.loop-i.invariant.reached c.requires.0 c.loop-i-test.true (sym c.page_at.ensures.result_value ∙ ap as_step c.in-Err.is))

pub returns : goal.returns
returns c = summed_all c.loop-i.invariant c.loop-i-test.false
