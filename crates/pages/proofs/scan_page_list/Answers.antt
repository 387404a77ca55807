use Rattle.wire.proofs.Laws.{passed_on}
use native.Mathlib.Omega.{arith}
use mathlib.Core.Path.{sym, ap, ◌∙◌}
use Rattle.frames.specs.Frames.{list_of}
use Rattle.frames.proofs.Laws.{mapped_closed}
use Rattle.pages.specs.Pages.{pages}
use Rattle.pages.proofs.PageLaws.{head_fits}
use borrow.Author.Rules.{rules}
use Rattle.pages.proofs.scan_page_list.Goals as goal
use Rattle.wire.specs.Answers.{as_step}

pub scan_pages-scanned-requires : goal.scan_pages-scanned-requires
scan_pages-scanned-requires c = let few = head_fits c.args.total c.args.s.now c.args.at (sym c.page_list_head.ensures ∙ ap as_step c.in_ok-head.was) in omega arith

pub returns : goal.returns
unfolding pages list_of
returns c = simp (← c.page_list_head.ensures, c.in_ok-head.was, mapped_closed, ← c.up_to.ensures, ← c.scan_pages-scanned.ensures, c.close_list.ensures)

pub returns-in_err-head : goal.returns-in_err-head
unfolding pages list_of
returns-in_err-head c = simp (passed_on c.from_residual.result _ c.from_residual.ensures.1, ← c.page_list_head.ensures, c.in_err-head.was)
