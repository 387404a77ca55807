use mathlib.Core.Path.{sym}
use Rattle.parents.proofs.dark.unknown_on.Goals as goal

pub returns-then-is_known : goal.returns-then-is_known
returns-then-is_known c = rw (sym c.is_known.ensures, c.if-is_known.true)

pub returns : goal.returns
returns c = rw (sym c.is_known.ensures, c.if-is_known.false)
