use mathlib.Core.Path.{sym, ap, ◌∙◌}
use Rattle.wire.proofs.Laws.{passed_on, judged_read, judged_missing}
use Rattle.clusters.specs.Clusters.{entry_count}
use borrow.Author.Rules.{rules}
use Rattle.clusters.proofs.cluster.entries_at.Goals as goal
use Rattle.wire.specs.Answers.{as_step}

pub returns : goal.returns
returns c = c.judge.ensures ∙ judged_read (entry_count c.args.sum) _ (sym c.number_8.ensures ∙ ap as_step c.in_ok-word.was) c.entry_count.ensures

pub returns-in_err-word : goal.returns-in_err-word
returns-in_err-word c = passed_on c.from_residual.result _ c.from_residual.ensures.1 ∙ (judged_missing (entry_count c.args.sum) _ (sym c.number_8.ensures ∙ ap as_step c.in_err-word.was))
