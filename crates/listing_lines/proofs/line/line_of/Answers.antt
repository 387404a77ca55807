-- `listing_lines::line::line_of` meets its contract. Assumes nothing.
use Rattle.listing_lines.specs.Line.{line_of}
use Rattle.listing_lines.proofs.line.line_of.Goals as goal

pub returns : goal.returns
unfolding line_of
returns c = rw (c.field_row-row.ensures, ← c.word-field.ensures, ← c.word-level.ensures, ← c.is_dark.ensures)
