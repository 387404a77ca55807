use Prim.Native.Nat.{◌+◌, ◌*◌, ◌-◌, ◌≤◌}
use lib.ListN.{length}
use Rattle.frames.proofs.Loops.{Filled, filled_none, filled_more, filled_all, reached_accepted}
use Rattle.links.specs.Links.{link}
use Rattle.rows.specs.Words.{link_width, link_words}
use mathlib.Core.Path.{refl, sym, ap, ◌∙◌}
use native.Mathlib.Omega.{arith}
use borrow.Author.Rules.{rules}
use Rattle.footer.proofs.fill.fill_links.Given as goal

abbrev pub invariant-loop-i : goal.invariant-loop-i
invariant-loop-i l = Filled (λ _. link_words) l.list (λ _. link l.file) l.count l.s l.initial.at l.i l.at l.initial.table l.table
