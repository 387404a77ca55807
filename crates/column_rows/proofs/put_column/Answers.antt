use Prim.Native.Nat.{◌+◌, ◌*◌}
use native.Mathlib.Omega.{arith}
use borrow.Author.Tests.{lt-leb}
use lib.ListN.{length}
use Rattle.numbers.specs.Rows.{put}
use Rattle.rows.specs.Words.{column_words}
use borrow.Author.Rules.{rules}
use Rattle.column_rows.proofs.put_column.Goals as goal

pub returns-then-i-table : goal.returns-then-i-table
unfolding column_words
returns-then-i-table c = c.put_words.ensures

pub returns-else-i-table : goal.returns-else-i-table
unfolding put column_words
returns-else-i-table c = let a = c.args in simp (lt-leb (4 * a.column.0 + 4) (length a.table.now) (omega arith))
