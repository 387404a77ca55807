use Prim.Native.Nat.{◌-◌}
use Rattle.frames.proofs.Loops.{Reached, reached_none, reached_more, reached_refused, reached_counted}
use Rattle.links.specs.Links.{link}
use mathlib.Core.Path.{sym, ap, ◌∙◌}
use native.Mathlib.Omega.{arith}
use borrow.Author.Rules.{rules}
use Rattle.links.proofs.scan_links.Given as goal

abbrev pub invariant-loop-i : goal.invariant-loop-i
invariant-loop-i l = Reached l.list (λ _. link l.file) l.count l.s l.initial.at l.i l.at
