use Prim.Native.Nat.{◌/◌}
use mathlib.Core.Path.{sym, ◌∙◌}
use lib.ListN.{length}
use Rattle.pages.proofs.PageLaws.{total_fits}
use Rattle.page_list_check.proofs.PageLaws.{too_many_lem, counted}
use native.Mathlib.Omega.{arith}
use Rattle.page_list_check.proofs.page.column_check.Goals as goal

pub returns-then-count-ne0 : goal.returns-then-count-ne0
returns-then-count-ne0 c = let a = c.args in too_many_lem a.file a.bits a.before a.pages.now c.running_total-count.ensures c.if-count-ne0.true

pub pages_check-requires : goal.pages_check-requires
pages_check-requires c = let a = c.args in let t = total_fits a.before (length a.pages.now / 5) (sym c.running_total-count.ensures ∙ c.if-count-ne0.false) in omega arith

pub returns : goal.returns
returns c = let a = c.args in counted a.file a.bits a.before a.pages.now c.running_total-count.ensures c.if-count-ne0.false c.pages_check.ensures
