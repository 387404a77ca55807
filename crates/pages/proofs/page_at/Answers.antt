use Rattle.wire.proofs.Laws.{handed_on}
use mathlib.Core.Path.{sym, ap, ◌∙◌}
use native.Mathlib.Omega.{arith}
use Rattle.pages.specs.Pages.{page}
use Rattle.pages.proofs.PageLaws.{page_by}
use borrow.Author.Rules.{rules}
use Rattle.pages.proofs.page_at.Goals as goal
use Rattle.wire.specs.Answers.{as_step}

pub returns : goal.returns
returns c = record { result_value = rw (page_by c.args.file c.args.column.0 c.args.bits c.args.s.now c.args.at (sym c.page_word_at.ensures ∙ ap as_step c.in_ok-word.was), ← c.size_of-size.ensures, ← c.locator_at.ensures, c.in_ok-range.was); few_elements = omega arith }

pub returns-in_err-range : goal.returns-in_err-range
returns-in_err-range c = rw (handed_on c.from_residual-in_err-range.result _ c.from_residual-in_err-range.ensures.1) (record { result_value = rw (page_by c.args.file c.args.column.0 c.args.bits c.args.s.now c.args.at (sym c.page_word_at.ensures ∙ ap as_step c.in_ok-word.was), ← c.size_of-size.ensures, ← c.locator_at.ensures, c.in_err-range.was); few_elements = tt })

pub returns-in_err-word : goal.returns-in_err-word
unfolding page
returns-in_err-word c = rw (handed_on c.from_residual.result _ c.from_residual.ensures.1) (record { result_value = rw (← c.page_word_at.ensures, c.in_err-word.was); few_elements = tt })
