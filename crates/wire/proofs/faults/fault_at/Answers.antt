use mathlib.Core.Path.{refl}
use Rattle.wire.proofs.faults.fault_at.Goals as goal

pub returns : goal.returns
returns c = refl
