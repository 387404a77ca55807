use Prim.Native.Nat.{◌-◌}
use mathlib.Core.Path.{sym, ap, ◌∙◌}
use native.Mathlib.Omega.{arith}
use Rattle.frames.proofs.Loops.{reached_accepted}
use Rattle.page_figures.proofs.SumLaws.{Summed, summed_none, summed_fits, summed_more, summed_all}
use borrow.Author.Rules.{rules}
use Rattle.page_figures.proofs.sums.sum_pages.Given as goal

abbrev pub invariant-loop-i : goal.invariant-loop-i
invariant-loop-i l = Summed l.file l.column.0 l.bits l.list l.count l.s l.initial.at l.i l.at l.elements l.sizes l.checksums
