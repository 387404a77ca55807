-- What the code's answers say, as steps of a rule.
use Rattle.std.specs.Prelude.{Result, Ok, Err}
use Rattle.wire.specs.declared.Fault.{Fault}
use Rattle.wire.specs.Reading.{Step, found, refused}
use Rattle.envelope.specs.Envelope.{Versions}
use Rattle.envelope.specs.declared.Opening.{Opening}

abbrev pub open_step : Result Opening Fault → Step Versions
open_step (Ok o) = found (record { version = o.version; strict = o.strict }) o.stop
open_step (Err f) = refused f
