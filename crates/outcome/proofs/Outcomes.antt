-- Refusals are told from acceptance, and by their code. Assumes nothing.
use Prim.Native.Nat.{ℕ}
use mathlib.Core.Path.{◌≡◌, ap}
use native.Mathlib.Omega.{arith}
use Rattle.outcome.specs.Outcome.{Outcome, RefusalTells, CodeTells}

pub refusal_tells : RefusalTells
unfolding RefusalTells
refusal_tells envelope number k counts h e =
    let z : envelope ≡ 0 = ap (λ (o : Outcome). o.envelope) e in
    omega arith

pub code_tells : CodeTells
unfolding CodeTells
code_tells o h = (omega arith, omega arith)
