use mathlib.Core.Path.{refl}
use Rattle.footer.proofs.carries_checksums.Goals as goal

pub returns : goal.returns
returns c = refl
