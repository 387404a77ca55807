use Rattle.page_list_check.proofs.PageLaws.{tallied_none, tallied_few, tallied_more, tallied_refused, tallied_all}
use native.Mathlib.Omega.{arith}
use Rattle.page_list_check.proofs.page.pages_check.Goals as goal

pub loop-i-init : goal.loop-i-init
loop-i-init c = tallied_none

pub returns-then-number-ne0 : goal.returns-then-number-ne0
returns-then-number-ne0 c = tallied_refused c.loop-i.invariant c.page_words-page.ensures c.page_number-number.ensures c.loop-i-test.true c.if-number-ne0.true

pub overflow_add-elements : goal.overflow_add-elements
overflow_add-elements c = let few = tallied_few c.loop-i.invariant c.page_words-page.ensures c.page_number-number.ensures c.if-number-ne0.false in let sum = c.loop-i.invariant.few in let most = c.requires in omega arith

pub loop-i-preserved : goal.loop-i-preserved
loop-i-preserved c = tallied_more c.loop-i.invariant c.page_words-page.ensures c.page_number-number.ensures c.loop-i-test.true c.if-number-ne0.false

pub returns : goal.returns
returns c = tallied_all c.loop-i.invariant c.loop-i-test.false
