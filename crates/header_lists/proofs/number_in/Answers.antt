use mathlib.Core.Path.{sym, ap}
use Rattle.std.specs.Prelude.{ℕ, Result}
use Rattle.wire.specs.declared.Fault.{Fault}
use Rattle.header_lists.specs.Next.{number_in}
use borrow.Author.Rules.{rules}
use Rattle.header_lists.proofs.number_in.Goals as goal
use Rattle.wire.specs.Answers.{as_step}

pub returns-in-Ok : goal.returns-in-Ok
returns-in-Ok c = sym (ap (λ (x : Result (ℕ × ℕ) Fault). number_in (as_step x)) c.in-Ok.is)

pub returns-in-Err : goal.returns-in-Err
returns-in-Err c = sym (ap (λ (x : Result (ℕ × ℕ) Fault). number_in (as_step x)) c.in-Err.is)
