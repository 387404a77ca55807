use mathlib.Core.Path.{refl}
use Rattle.writing.specs.Footer.{checksum_piece}
use Rattle.footer_check.proofs.items.checksum_number.Goals as goal

pub returns-then-carried : goal.returns-then-carried
unfolding checksum_piece
returns-then-carried c = rw c.if-carried.true c.narrow.ensures

pub returns : goal.returns
unfolding checksum_piece
returns c = rw c.if-carried.false refl
