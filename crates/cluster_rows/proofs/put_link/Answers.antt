use Prim.Native.Nat.{◌+◌, ◌*◌}
use native.Mathlib.Omega.{arith}
use borrow.Author.Tests.{lt-leb}
use lib.ListN.{length}
use Rattle.numbers.specs.Rows.{put}
use borrow.Author.Rules.{rules}
use Rattle.cluster_rows.proofs.put_link.Goals as goal

pub returns-then-i-table : goal.returns-then-i-table
returns-then-i-table c = c.put_words.ensures

pub returns-else-i-table : goal.returns-else-i-table
unfolding put
returns-else-i-table c = let a = c.args in simp (lt-leb (2 * a.i + 2) (length a.table.now) (omega arith))
