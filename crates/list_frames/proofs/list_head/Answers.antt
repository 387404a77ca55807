use Rattle.wire.proofs.Laws.{passed_on}
use mathlib.Core.Path.{sym, ap, ◌∙◌}
use native.Mathlib.Omega.{arith}
use borrow.Author.Tests.{lt-ltb, le-ltb}
use Rattle.frames.proofs.Laws.{list_room}
use borrow.Author.Rules.{rules}
use Rattle.list_frames.proofs.list_head.Goals as goal
use Rattle.wire.specs.Answers.{as_step}

pub overflow_add-at : goal.overflow_add-at
overflow_add-at c = let room = list_room _ _ (sym c.list_stop.ensures ∙ ap as_step c.in_ok-start.was) in omega arith

pub returns-then-count-lt268435456 : goal.returns-then-count-lt268435456
returns-then-count-lt268435456 c = let room = list_room _ _ (sym c.list_stop.ensures ∙ ap as_step c.in_ok-start.was) in
    simp (← c.list_stop.ensures, c.in_ok-start.was, ← (c.little_4-count.ensures.0.there (omega arith)), lt-ltb _ _ c.if-count-lt268435456.true)

pub returns-else-count-lt268435456 : goal.returns-else-count-lt268435456
returns-else-count-lt268435456 c = let room = list_room _ _ (sym c.list_stop.ensures ∙ ap as_step c.in_ok-start.was) in
    simp (← c.list_stop.ensures, c.in_ok-start.was, ← (c.little_4-count.ensures.0.there (omega arith)), le-ltb _ _ c.if-count-lt268435456.false, c.fault_at.ensures)
