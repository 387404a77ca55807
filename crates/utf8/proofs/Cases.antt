-- The worked cases, computed.
use mathlib.Core.Path.{refl}
use Rattle.utf8.specs.WellFormed.{due, goes_on, well_formed}
use Rattle.utf8.specs.Scalars.{encoded}
use Rattle.utf8.specs.Cases.{WorkedCases}

pub worked_cases : WorkedCases
unfolding encoded well_formed goes_on due
worked_cases = record { encodes = refl; accepts = refl; refuses = refl }
