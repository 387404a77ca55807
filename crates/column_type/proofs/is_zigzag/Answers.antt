-- `column_type::is_zigzag` meets its contract: so the marks say. Assumes nothing.
use mathlib.Core.Path.{◌∙◌}
use borrow.Author.Rules.{rules}
use Rattle.column_type.proofs.is_zigzag.Goals as goal

pub returns : goal.returns
returns c = c.zigzag_in.ensures ∙ c.marks_of.ensures.is_zigzag
