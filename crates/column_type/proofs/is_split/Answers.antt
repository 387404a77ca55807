-- `column_type::is_split` meets its contract: so the marks say. Assumes nothing.
use mathlib.Core.Path.{◌∙◌}
use borrow.Author.Rules.{rules}
use Rattle.column_type.proofs.is_split.Goals as goal

pub returns : goal.returns
returns c = c.split_in.ensures ∙ c.marks_of.ensures.is_split
