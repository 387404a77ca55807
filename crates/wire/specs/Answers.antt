-- What the code's answers say, as steps of a rule.
use Rattle.std.specs.Prelude.{ℕ, Result, Ok, Err}
use Rattle.wire.specs.Reading.{Step, found, refused}
use Rattle.wire.specs.declared.Fault.{Fault}

abbrev pub as_step : {A : Type 0} → Result (A × ℕ) Fault → Step A
as_step (Ok (v, p)) = found v p
as_step (Err f) = refused f

-- a place alone
abbrev pub place_step : Result ℕ Fault → Step (Unit {0})
place_step (Ok p) = found tt p
place_step (Err f) = refused f
