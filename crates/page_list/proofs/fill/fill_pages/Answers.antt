use Prim.Native.Nat.{◌+◌, ◌*◌, ◌-◌, ◌≤◌}
use mathlib.Core.Path.{sym, ap, ◌∙◌, refl}
use native.Mathlib.Omega.{arith}
use lib.ListN.{length}
use Rattle.frames.proofs.Loops.{Filled, filled_none, filled_more, filled_all, reached_accepted, reached_counted}
use Rattle.pages.specs.Pages.{page}
use Rattle.rows.specs.Words.{page_width, page_words}
use borrow.Author.Rules.{rules}
use Rattle.page_list.proofs.fill.fill_pages.Goals as goal
use Rattle.wire.specs.Answers.{as_step}

pub loop-i-init : goal.loop-i-init
loop-i-init c = filled_none

pub loop-i-preserved : goal.loop-i-preserved
loop-i-preserved c = let room : page_width * c.loop-i.i + page_width ≤ length c.loop-i.table = let k = c.loop-i.invariant.holds.long in omega arith in
    filled_more c.loop-i.invariant page_width (λ _ _. refl) c.loop-i-test.true (sym c.page_at.ensures.result_value ∙ ap as_step c.in-Ok.is) room
    c.put_page.ensures
    c.put_page.auto.table

pub shape_of-table-in-Err : goal.shape_of-table-in-Err
shape_of-table-in-Err c = c.loop-i.invariant.holds.long

pub returns-in-Err : goal.returns-in-Err
returns-in-Err c = record { result_value = absurd (reached_accepted c.loop-i.invariant.reached c.requires.bits_value c.loop-i-test.true (sym c.page_at.ensures.result_value ∙ ap as_step c.in-Err.is)); table_after = absurd (reached_accepted c.loop-i.invariant.reached c.requires.bits_value c.loop-i-test.true (sym c.page_at.ensures.result_value ∙ ap as_step c.in-Err.is)) }

pub shape_of-table : goal.shape_of-table
shape_of-table c = c.loop-i.invariant.holds.long

pub returns : goal.returns
returns c = record { result_value = reached_counted c.loop-i.invariant.reached c.loop-i-test.false; table_after = filled_all c.loop-i.invariant c.loop-i-test.false }
