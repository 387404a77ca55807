-- The length is known by a law: to count it out would take the check too deep.
use Rattle.std.proofs.Common.{ℕ, sym}
use lib.ListN.{length-replicate}
use Rattle.cases.proofs.filled.Goals as goal

pub returns-clause-value : goal.returns-clause-value
returns-clause-value c = sym (length-replicate {0} {A = ℕ} 1048577 c.args.byte)
