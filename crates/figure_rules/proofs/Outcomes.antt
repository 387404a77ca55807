-- An outcome tells the answer. Assumes nothing.
use mathlib.Core.Path.{ap}
use native.Mathlib.Omega.{arith}
use lib.ListN.{get_or}
use Rattle.outcome.specs.Outcome.{Outcome}
use Rattle.figure_rules.specs.Report.{OutcomeTells}
use Rattle.std.specs.Prelude.{Ok, Err}

pub outcome_tells : OutcomeTells
unfolding OutcomeTells
outcome_tells (Ok c) (Ok d) _ _ e = λ j. Ok (record { accepted = get_or (e j).counts 0 0; refused = get_or (e j).counts 1 0 })
outcome_tells (Ok c) (Err why) _ named e = absurd (omega (arith, ap (λ (o : Outcome). o.envelope) e))
outcome_tells (Err why) (Ok d) named _ e = absurd (omega (arith, ap (λ (o : Outcome). o.envelope) e))
outcome_tells (Err why) (Err why1) _ _ e =
    λ j. Err (record { envelope = (e j).envelope; number = (e j).number; lists = record { accepted = get_or (e j).counts 0 0; refused = get_or (e j).counts 1 0 } })
