use Prim.Native.Nat.{◌+◌, ◌-◌}
use mathlib.Core.Path.{◌≡◌, sym, ◌∙◌}
use native.Mathlib.Omega.{arith}
use Rattle.utf8.proofs.Reading.{read_ascii}
use Rattle.utf8.proofs.block.Goals as goal

pub returns-then-is_ascii : goal.returns-then-is_ascii
returns-then-is_ascii c = let a = c.args in
    let e : a.from + a.size - a.from ≡ a.size = omega arith in
    sym (read_ascii a.s.now a.from a.size (omega arith) (sym (rw e at c.is_ascii.ensures) ∙ c.if-is_ascii.true))
