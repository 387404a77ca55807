use Rattle.writing.specs.Header.{alias_piece}
use Rattle.writing.proofs.Items.{first_alone}
use Rattle.header_check.proofs.aliases.alias_number.Goals as goal

pub returns : goal.returns
unfolding alias_piece
returns c = rw (first_alone, ← c.below.ensures, ← c.narrow-physical.ensures, ← c.aliasable.ensures, ← c.narrow-aliased.ensures) c.first.ensures
