use borrow.Author.Tests.{eq-eqb, ne_eqb}
use native.Mathlib.Omega.{arith}
use Rattle.wire.proofs.number.unless_due.Goals as goal

pub returns-then-value-due : goal.returns-then-value-due
returns-then-value-due c = let a = c.args in simp (eq-eqb a.value a.due (omega arith))

pub returns : goal.returns
returns c = let a = c.args in simp (ne_eqb a.value a.due (omega arith))
