use Prim.Native.Nat.{◌-◌}
use Rattle.frames.proofs.Loops.{Reached, reached_none, reached_more, reached_refused, reached_counted}
use Rattle.links.specs.Links.{link}
use mathlib.Core.Path.{sym, ap, ◌∙◌}
use native.Mathlib.Omega.{arith}
use borrow.Author.Rules.{rules}
use Rattle.links.proofs.scan_links.Goals as goal
use Rattle.wire.specs.Answers.{as_step}

pub loop-i-preserved : goal.loop-i-preserved
loop-i-preserved c = reached_more c.loop-i.invariant c.loop-i-test.true (sym c.link_at.ensures ∙ ap as_step c.in-Ok.is)

pub returns-in-Err : goal.returns-in-Err
returns-in-Err c = rw (reached_refused c.loop-i.invariant c.loop-i-test.true (sym c.link_at.ensures ∙ ap as_step c.in-Err.is), c.fault_in_item.ensures)

pub returns : goal.returns
returns c = reached_counted c.loop-i.invariant c.loop-i-test.false
