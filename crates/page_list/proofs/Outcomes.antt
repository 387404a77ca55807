-- An outcome tells the answer. Assumes nothing.
use mathlib.Core.Path.{sym}
use mathlib.Core.List.{[], ◌∷◌}
use lib.ListN.{get_or}
use Rattle.outcome.specs.Outcome.{RefusalTells}
use Rattle.outcome.proofs.Outcomes.{refusal_tells}
use Rattle.page_list.specs.Statements.{OutcomeTells}
use Rattle.std.specs.Prelude.{Ok, Err}

pub outcome_tells : OutcomeTells
unfolding OutcomeTells RefusalTells
outcome_tells (Ok c) (Ok d) _ _ e = λ j. Ok (get_or (e j).counts 0 0)
outcome_tells (Ok c) (Err why) _ named e = absurd (refusal_tells why.envelope why.number 1 (c ∷ []) named (sym e))
outcome_tells (Err why) (Ok c) named _ e = absurd (refusal_tells why.envelope why.number 1 (c ∷ []) named e)
outcome_tells (Err why) (Err why1) _ _ e = λ j. Err (record { envelope = (e j).envelope; number = (e j).number })
