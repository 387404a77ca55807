use Prim.Native.Nat.{◌+◌, ◌*◌}
use mathlib.Core.Path.{ap, ◌∙◌}
use native.Mathlib.Omega.{arith}
use borrow.Author.Tests.{lt-leb}
use lib.ListN.{length}
use Rattle.numbers.specs.Rows.{put}
use Rattle.rows.specs.Words.{field_words}
use borrow.Author.Rules.{rules}
use Rattle.field_rows.proofs.put_field.Goals as goal

pub returns-then-i-table : goal.returns-then-i-table
returns-then-i-table c = c.put_words.ensures ∙ ap (put _ _) c.field_words-words.ensures

pub returns-else-i-table : goal.returns-else-i-table
unfolding put field_words
returns-else-i-table c = let a = c.args in simp (lt-leb (15 * a.field.0 + 15) (length a.table.now) (omega arith))
