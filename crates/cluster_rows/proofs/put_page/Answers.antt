use Prim.Native.Nat.{◌+◌, ◌*◌, ◌-◌}
use mathlib.Core.Path.{ap, ◌∙◌}
use native.Mathlib.Omega.{arith}
use borrow.Author.Tests.{lt-leb}
use borrow.Rule.Slice.PartMut.{put_mid}
use lib.ListN.{length}
use Rattle.numbers.specs.Rows.{put}
use Rattle.numbers.proofs.Parts.{put_part}
use borrow.Author.Rules.{rules}
use Rattle.cluster_rows.proofs.put_page.Goals as goal

pub returns-then-i-table : goal.returns-then-i-table
returns-then-i-table c = let a = c.args in
    let at = 5 * a.i in
    rw (← c.bit.ensures) (ap (put_mid at (at + 5 - at) a.table.now) c.put_words.ensures ∙ put_part a.table.now at (at + 5 - at) _ (omega arith) (omega arith))

pub returns-else-i-table : goal.returns-else-i-table
unfolding put
returns-else-i-table c = let a = c.args in simp (lt-leb (5 * a.i + 5) (length a.table.now) (omega arith))
