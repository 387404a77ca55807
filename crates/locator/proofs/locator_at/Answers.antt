use Rattle.wire.proofs.Laws.{passed_on}
use mathlib.Core.Path.{sym, ap, ◌∙◌}
use native.Mathlib.Omega.{arith}
use Rattle.numbers.proofs.Numbers.{trailer_most}
use Rattle.locator.specs.Locator.{locator}
use Rattle.locator.proofs.Laws.{stored_few}
use borrow.Author.Rules.{rules}
use Rattle.locator.proofs.locator_at.Goals as goal
use Rattle.wire.specs.Answers.{as_step}

pub offset_at-requires : goal.offset_at-requires
offset_at-requires c = let a = c.args in
    let few = stored_few a.size a.s.now a.at (sym c.stored_size_at.ensures ∙ ap as_step c.in_ok-stored.was) in
    omega (arith, few, trailer_most a.checksum, c.trailer_size.ensures)

pub returns : goal.returns
unfolding locator
returns c = simp (← c.stored_size_at.ensures, c.in_ok-stored.was, ← c.trailer_size.ensures, ← c.offset_at.ensures, c.in_ok-offset.was)

pub returns-in_err-offset : goal.returns-in_err-offset
unfolding locator
returns-in_err-offset c = simp (passed_on c.from_residual-in_err-offset.result _ c.from_residual-in_err-offset.ensures.1, ← c.stored_size_at.ensures, c.in_ok-stored.was, ← c.trailer_size.ensures, ← c.offset_at.ensures, c.in_err-offset.was)

pub returns-in_err-stored : goal.returns-in_err-stored
unfolding locator
returns-in_err-stored c = simp (passed_on c.from_residual.result _ c.from_residual.ensures.1, ← c.stored_size_at.ensures, c.in_err-stored.was)
