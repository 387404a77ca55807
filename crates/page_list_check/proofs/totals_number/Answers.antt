use mathlib.Core.Path.{sym, ap, ◌∙◌}
use Rattle.writing.specs.PageList.{totals_number}
use Rattle.page_list_check.proofs.totals_number.Goals as goal

pub returns-in-None : goal.returns-in-None
returns-in-None c = ap totals_number (sym c.in-None.is ∙ c.totals_of.ensures)

pub returns-in-Some : goal.returns-in-Some
returns-in-Some c = ap totals_number (sym c.in-Some.is ∙ c.totals_of.ensures)
