-- `column_type::is_delta` meets its contract: so the marks say. Assumes nothing.
use mathlib.Core.Path.{◌∙◌}
use borrow.Author.Rules.{rules}
use Rattle.column_type.proofs.is_delta.Goals as goal

pub returns : goal.returns
returns c = c.delta_in.ensures ∙ c.marks_of.ensures.is_delta
