use mathlib.Core.Path.{sym, ap, ◌∙◌}
use Rattle.wire.proofs.Laws.{passed_on, judged_read, judged_missing}
use Rattle.clusters.specs.Clusters.{starts_at}
use borrow.Author.Rules.{rules}
use Rattle.clusters.proofs.cluster.first_entry_at.Goals as goal
use Rattle.wire.specs.Answers.{as_step}

pub returns : goal.returns
returns c = c.judge.ensures ∙ judged_read (starts_at c.args.sum) _ (sym c.number_8.ensures ∙ ap as_step c.in_ok-first.was) c.unless_due.ensures

pub returns-in_err-first : goal.returns-in_err-first
returns-in_err-first c = passed_on c.from_residual.result _ c.from_residual.ensures.1 ∙ (judged_missing (starts_at c.args.sum) _ (sym c.number_8.ensures ∙ ap as_step c.in_err-first.was))
