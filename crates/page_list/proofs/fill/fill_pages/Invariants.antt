use Prim.Native.Nat.{◌+◌, ◌*◌, ◌-◌, ◌≤◌}
use mathlib.Core.Path.{sym, ap, ◌∙◌, refl}
use native.Mathlib.Omega.{arith}
use lib.ListN.{length}
use Rattle.frames.proofs.Loops.{Filled, filled_none, filled_more, filled_all, reached_accepted, reached_counted}
use Rattle.pages.specs.Pages.{page}
use Rattle.rows.specs.Words.{page_width, page_words}
use borrow.Author.Rules.{rules}
use Rattle.page_list.proofs.fill.fill_pages.Given as goal

abbrev pub invariant-loop-i : goal.invariant-loop-i
invariant-loop-i l = Filled (λ _. page_words) l.list (λ _. page l.file l.column.0 l.bits) l.count l.s l.initial.at l.i l.at l.initial.table l.table
