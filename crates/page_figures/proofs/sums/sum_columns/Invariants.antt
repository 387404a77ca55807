use Prim.Native.Nat.{◌-◌}
use mathlib.Core.Path.{sym, ap, ◌∙◌}
use native.Mathlib.Omega.{arith}
use Rattle.page_figures.proofs.ColumnSums.{Written, columns_none, columns_never, columns_ready, columns_more, columns_all}
use borrow.Author.Rules.{rules}
use Rattle.page_figures.proofs.sums.sum_columns.Given as goal

abbrev pub invariant-loop-i : goal.invariant-loop-i
invariant-loop-i l = Written l.strict l.file l.columns l.list l.count l.s l.initial.at l.i l.at l.total l.initial.figures l.figures
