use mathlib.Core.Path.{sym, ap, ◌∙◌}
use Rattle.wire.proofs.Laws.{passed_on, judged_read, judged_missing}
use Rattle.envelope.specs.Features.{feature_bits}
use borrow.Author.Rules.{rules}
use Rattle.envelope.proofs.features.feature_word.Goals as goal
use Rattle.wire.specs.Answers.{as_step}

pub returns : goal.returns
returns c = c.judge.ensures ∙ judged_read feature_bits _ (sym c.number_8.ensures ∙ ap as_step c.in_ok-word.was) c.feature_bits.ensures

pub returns-in_err-word : goal.returns-in_err-word
returns-in_err-word c = passed_on c.from_residual.result _ c.from_residual.ensures.1 ∙ (judged_missing feature_bits _ (sym c.number_8.ensures ∙ ap as_step c.in_err-word.was))
