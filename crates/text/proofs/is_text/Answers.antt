use mathlib.Core.Path.{sym, ◌∙◌}
use Rattle.utf8.proofs.Reading.{ascii_well_formed}
use borrow.Author.Rules.{rules}
use Rattle.text.proofs.is_text.Goals as goal

pub returns-then-is_ascii : goal.returns-then-is_ascii
returns-then-is_ascii c = sym (ascii_well_formed _ (sym c.is_ascii.ensures ∙ c.if-is_ascii.true))
