use mathlib.Core.Path.{sym, ap, ◌∙◌}
use Rattle.std.specs.Prelude.{ℕ, Result}
use Rattle.wire.specs.declared.Fault.{Fault}
use Rattle.header_payload.specs.declared.HeaderScan.{HeaderScan}
use Rattle.header_reader.specs.Fits.{rows_there}
use borrow.Author.Rules.{rules}
use Rattle.header_reader.proofs.fill.rows_there.Goals as goal
use Rattle.wire.specs.Answers.{as_step}

pub returns-in-Ok : goal.returns-in-Ok
returns-in-Ok c = let a = c.args in
    c.has_room.ensures ∙ sym (ap (λ (x : Result (HeaderScan × ℕ) Fault). rows_there a.fields a.columns a.aliases (as_step x)) c.in-Ok.is)
