use Prim.Native.Nat.{◌+◌}
use native.Mathlib.Omega.{arith}
use Rattle.verdicts.proofs.Capped.{capped_small, capped_big}
use borrow.Author.Rules.{rules}
use Rattle.verdicts.proofs.length.grown.Goals as goal

pub returns-then-total-gt-CEILING : goal.returns-then-total-gt-CEILING
returns-then-total-gt-CEILING c = capped_big (c.args.total + c.args.more) (omega arith)

pub returns-then-total-more : goal.returns-then-total-more
returns-then-total-more c = capped_big (c.args.total + c.args.more) (omega arith)

pub returns : goal.returns
returns c = capped_small (c.args.total + c.args.more) (omega arith)
