use mathlib.Core.Path.{sym, ap, ◌∙◌}
use Rattle.wire.proofs.Laws.{passed_on, judged_read, judged_missing}
use Rattle.footer.specs.Footer.{names}
use borrow.Author.Rules.{rules}
use Rattle.footer.proofs.opening.header_checksum_at.Goals as goal
use Rattle.wire.specs.Answers.{as_step}

pub returns : goal.returns
returns c = c.judge.ensures ∙ judged_read (names c.args.checksum) _ (sym c.number_4.ensures ∙ ap as_step c.in_ok-named.was) c.unless_due.ensures

pub returns-in_err-named : goal.returns-in_err-named
returns-in_err-named c = passed_on c.from_residual.result _ c.from_residual.ensures.1 ∙ (judged_missing (names c.args.checksum) _ (sym c.number_4.ensures ∙ ap as_step c.in_err-named.was))
