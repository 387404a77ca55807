use Prim.Native.Nat.{◌+◌}
use lib.ListN.{length}
use mathlib.Core.Path.{sym}
use native.Mathlib.Omega.{arith}
use borrow.Author.Tests.{le-leb}
use Rattle.numbers.proofs.Numbers.{false_room}
use borrow.Author.Rules.{rules}
use Rattle.numbers.proofs.has_room.Goals as goal

pub returns-then-s-at : goal.returns-then-s-at
returns-then-s-at c = false_room _ _ _ (omega arith)

pub returns-then-len-s : goal.returns-then-len-s
returns-then-len-s c = let a = c.args in record { is = sym (le-leb (a.at + a.len) (length a.s.now) (omega arith)); fits = λ _. omega arith }

pub returns : goal.returns
returns c = false_room _ _ _ (omega arith)
