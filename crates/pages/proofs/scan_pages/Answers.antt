use Prim.Native.Nat.{◌-◌}
use mathlib.Core.Path.{sym, ap, subst, ◌∙◌}
use native.Mathlib.Omega.{arith}
use Rattle.frames.proofs.Loops.{reached_refused}
use Rattle.pages.specs.Answers.{FewElements}
use Rattle.pages.proofs.PageLaws.{Tallied, tallied_none, tallied_more, tallied_all}
use borrow.Author.Rules.{rules}
use Rattle.pages.proofs.scan_pages.Goals as goal
use Rattle.wire.specs.Answers.{as_step}

pub loop-i-init : goal.loop-i-init
loop-i-init c = tallied_none

pub loop-i-preserved : goal.loop-i-preserved
loop-i-preserved c = tallied_more c.loop-i.invariant c.loop-i-test.true (sym c.page_at.ensures.result_value ∙ ap as_step c.in-Ok.is) (subst FewElements c.in-Ok.is c.page_at.ensures.few_elements)

pub returns-in-Err : goal.returns-in-Err
returns-in-Err c = rw (reached_refused c.loop-i.invariant.reached c.loop-i-test.true (sym c.page_at.ensures.result_value ∙ ap as_step c.in-Err.is), c.fault_in_item.ensures)

pub returns : goal.returns
returns c = tallied_all c.loop-i.invariant c.loop-i-test.false
