use Rattle.writing.specs.Header.{column_piece}
use Rattle.writing.proofs.Items.{first_alone}
use Rattle.header_check.proofs.columns.column_number.Goals as goal

pub returns : goal.returns
unfolding column_piece
returns c = rw (first_alone, ← c.sized-sized.ensures, ← c.narrow-column_type.ensures, ← c.narrow-bits.ensures, ← c.below.ensures, ← c.narrow-owner.ensures, ← c.listed.ensures, ← c.narrow-flags.ensures, ← c.first-last.ensures, ← c.first.ensures) c.first-2.ensures
