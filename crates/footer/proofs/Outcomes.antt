-- An outcome tells the answer. Assumes nothing.
use mathlib.Core.Path.{◌≡◌, sym}
use mathlib.Core.List.{[], ◌∷◌}
use lib.ListN.{get_or}
use Rattle.outcome.specs.Outcome.{RefusalTells}
use Rattle.outcome.proofs.Outcomes.{refusal_tells}
use Rattle.footer.specs.Statements.{OutcomeTells}
use Rattle.std.specs.Prelude.{Ok, Err}

pub outcome_tells : OutcomeTells
unfolding OutcomeTells RefusalTells
outcome_tells (Ok counts) (Ok counts1) _ _ e = λ j. Ok (record { clusters = get_or (e j).counts 0 0; metadata = get_or (e j).counts 1 0 })
outcome_tells (Ok counts) (Err why1) _ named e = absurd (refusal_tells why1.envelope why1.number 2 (counts.clusters ∷ counts.metadata ∷ []) named (sym e))
outcome_tells (Err why) (Ok counts1) named _ e = absurd (refusal_tells why.envelope why.number 2 (counts1.clusters ∷ counts1.metadata ∷ []) named e)
outcome_tells (Err why) (Err why1) _ _ e = λ j. Err (record { envelope = (e j).envelope; number = (e j).number })
