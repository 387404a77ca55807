use mathlib.Core.Path.{refl}
use Rattle.utf8.proofs.Ascii.{joined_next, joined_all}
use Rattle.utf8.proofs.is_ascii.Goals as goal

pub loop-byte-init : goal.loop-byte-init
loop-byte-init c = refl

pub loop-byte-preserved : goal.loop-byte-preserved
loop-byte-preserved c = let l = c.loop-byte in joined_next _ l.all l.byte-index c.loop-byte-test.true l.invariant

pub returns : goal.returns
returns c = let l = c.loop-byte in joined_all _ l.all l.byte-index c.loop-byte-test.false l.invariant
