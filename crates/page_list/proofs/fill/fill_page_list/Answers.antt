use Rattle.wire.proofs.Laws.{passed_on}
use native.Mathlib.Omega.{arith}
use mathlib.Core.Path.{◌≡◌, sym, ap, ◌∙◌}
use mathlib.Core.Bool.{false}
use borrow.Author.Tests.{leb-true}
use Rattle.wire.specs.Reading.{found, accepted}
use Rattle.wire.specs.Answers.{as_step}
use Rattle.frames.specs.Frames.{list_of, list_head}
use Rattle.frames.proofs.Laws.{counted_closed}
use Rattle.frames.proofs.Loops.{list_accepted, list_rows, list_count_lem}
use Rattle.pages.specs.Pages.{page, running_total, pages}
use borrow.Author.Rules.{rules}
use Rattle.page_list.proofs.fill.fill_page_list.Goals as goal

pub fill_pages-filled-requires : goal.fill_pages-filled-requires
unfolding pages
fill_pages-filled-requires c = let a = c.args in
    let head : list_head (running_total a.total) a.s.now a.at ≡ found c.in_ok-head.head c.in_ok-head.stop = sym c.page_list_head.ensures ∙ ap as_step c.in_ok-head.was in
    let p = c.requires.at_value in
    let count = list_count_lem a.strict (running_total a.total) (λ _ _. page a.file a.column.0 a.bits) a.s.now a.at head p in
    record { bits_value = rw c.up_to.ensures (list_accepted a.strict (running_total a.total) (λ _ _. page a.file a.column.0 a.bits) a.s.now a.at head p); count_in_bounds = omega arith }

pub returns : goal.returns
unfolding pages list_of
returns c = let a = c.args in
    let head : list_head (running_total a.total) a.s.now a.at ≡ found c.in_ok-head.head c.in_ok-head.stop = sym c.page_list_head.ensures ∙ ap as_step c.in_ok-head.was in record { result_value = simp (← c.page_list_head.ensures, c.in_ok-head.was, counted_closed, ← c.up_to.ensures, ← c.fill_pages-filled.ensures.result_value, c.close_list.ensures); table_after = rw (list_rows a.strict (running_total a.total) (λ _ _. page a.file a.column.0 a.bits) a.s.now a.at head c.requires.at_value, ← c.up_to.ensures) c.fill_pages-filled.ensures.table_after }

pub returns-in_err-head : goal.returns-in_err-head
unfolding pages list_of
returns-in_err-head c = let a = c.args in
    let e : accepted (pages a.strict a.file a.column.0 a.bits a.total a.s.now a.at) ≡ false = simp (← c.page_list_head.ensures, c.in_err-head.was) in
    record { result_value = passed_on c.from_residual.result _ c.from_residual.ensures.1 ∙ absurd (omega (arith, leb-true 1 0 (sym e ∙ c.requires.at_value))); table_after = absurd (omega (arith, leb-true 1 0 (sym e ∙ c.requires.at_value))) }
