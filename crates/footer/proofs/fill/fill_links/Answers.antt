use Prim.Native.Nat.{◌+◌, ◌*◌, ◌-◌, ◌≤◌}
use lib.ListN.{length}
use Rattle.frames.proofs.Loops.{Filled, filled_none, filled_more, filled_all, reached_accepted}
use Rattle.links.specs.Links.{link}
use Rattle.rows.specs.Words.{link_width, link_words}
use mathlib.Core.Path.{refl, sym, ap, ◌∙◌}
use native.Mathlib.Omega.{arith}
use borrow.Author.Rules.{rules}
use Rattle.footer.proofs.fill.fill_links.Goals as goal
use Rattle.wire.specs.Answers.{as_step}

pub loop-i-init : goal.loop-i-init
loop-i-init c = filled_none

pub loop-i-preserved : goal.loop-i-preserved
loop-i-preserved c = let room : link_width * c.loop-i.i + link_width ≤ length c.loop-i.table = let k = c.loop-i.invariant.holds.long in omega arith in
    filled_more c.loop-i.invariant link_width (λ _ _. refl) c.loop-i-test.true (sym c.link_at.ensures ∙ ap as_step c.in-Ok.is) room c.put_link.ensures c.put_link.auto.table

pub shape_of-table-in-Err : goal.shape_of-table-in-Err
shape_of-table-in-Err c = c.loop-i.invariant.holds.long

pub returns-in-Err : goal.returns-in-Err
returns-in-Err c = absurd (reached_accepted c.loop-i.invariant.reached c.requires.file_value c.loop-i-test.true (sym c.link_at.ensures ∙ ap as_step c.in-Err.is))

pub shape_of-table : goal.shape_of-table
shape_of-table c = c.loop-i.invariant.holds.long

pub returns : goal.returns
returns c = filled_all c.loop-i.invariant c.loop-i-test.false
