use Prim.Native.Nat.{◌-◌}
use mathlib.Core.Path.{sym, ap, subst, ◌∙◌}
use native.Mathlib.Omega.{arith}
use Rattle.frames.proofs.Loops.{reached_refused}
use Rattle.pages.specs.Answers.{FewElements}
use Rattle.pages.proofs.PageLaws.{Tallied, tallied_none, tallied_more, tallied_all}
use borrow.Author.Rules.{rules}
use Rattle.pages.proofs.scan_pages.Given as goal

abbrev pub invariant-loop-i : goal.invariant-loop-i
invariant-loop-i l = Tallied l.file l.column.0 l.bits l.list l.count l.s l.initial.at l.i l.at l.elements
