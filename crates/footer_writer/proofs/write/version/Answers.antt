use mathlib.Core.Path.{refl}
use Rattle.footer_writer.proofs.write.version.Goals as goal

pub returns-then-carried : goal.returns-then-carried
returns-then-carried c = rw c.if-carried.true refl

pub returns : goal.returns
returns c = rw c.if-carried.false refl
