use Rattle.wire.proofs.Laws.{passed_on}
use mathlib.Core.Path.{sym, ap, ◌∙◌}
use Rattle.frames.specs.Frames.{list_of}
use Rattle.footer.proofs.OpeningLaws.{empty_read}
use borrow.Author.Rules.{rules}
use Rattle.footer.proofs.opening.empty_list_at.Goals as goal
use Rattle.wire.specs.Answers.{as_step}

pub returns : goal.returns
returns c = c.close_list.ensures ∙ sym (empty_read _ _ _ (sym c.empty_list_head.ensures ∙ ap as_step c.in_ok-head.was))

pub returns-in_err-head : goal.returns-in_err-head
unfolding list_of
returns-in_err-head c = let e = sym c.empty_list_head.ensures ∙ ap as_step c.in_err-head.was in passed_on c.from_residual.result _ c.from_residual.ensures.1 ∙ (rw e)
