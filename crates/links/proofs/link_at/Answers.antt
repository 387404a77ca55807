use Rattle.wire.proofs.Laws.{passed_on}
use mathlib.Core.Path.{sym, ap, ◌∙◌}
use Rattle.links.specs.Links.{link}
use Rattle.links.proofs.LinkLaws.{link_by}
use borrow.Author.Rules.{rules}
use Rattle.links.proofs.link_at.Goals as goal
use Rattle.wire.specs.Answers.{as_step}

pub returns : goal.returns
returns c = rw (link_by c.args.file c.args.s.now c.args.at (sym c.number_4.ensures ∙ ap as_step c.in_ok-due.was), ← c.locator_at.ensures, c.in_ok-range.was)

pub returns-in_err-range : goal.returns-in_err-range
returns-in_err-range c = rw (passed_on c.from_residual-in_err-range.result _ c.from_residual-in_err-range.ensures.1, link_by c.args.file c.args.s.now c.args.at (sym c.number_4.ensures ∙ ap as_step c.in_ok-due.was), ← c.locator_at.ensures, c.in_err-range.was)

pub returns-in_err-due : goal.returns-in_err-due
unfolding link
returns-in_err-due c = simp (passed_on c.from_residual.result _ c.from_residual.ensures.1, ← c.number_4.ensures, c.in_err-due.was)
