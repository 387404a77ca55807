use Prim.Native.Nat.{◌+◌, ◌-◌, ◌≤◌, zero-le}
use mathlib.Core.Path.{◌≡◌, refl}
use native.Mathlib.Numerals.{add-one}
use native.Mathlib.Omega.{arith}
use borrow.Author.Tests.{le-leb, lt-leb}
use lib.ListN.{length, length-set}
use lib.Seq.{paste, paste-zero, paste-suc, take-length}
use Rattle.numbers.specs.Rows.{put}
use Rattle.rows.proofs.put_words.Goals as goal

pub returns-then-table-at : goal.returns-then-table-at
unfolding put
returns-then-table-at c = let a = c.args in simp (lt-leb (a.at + length a.words.now) (length a.table.now) (omega arith))

pub returns-then-table-at-2 : goal.returns-then-table-at-2
unfolding put
returns-then-table-at-2 c = let a = c.args in simp (lt-leb (a.at + length a.words.now) (length a.table.now) (omega arith))

pub loop-i-init : goal.loop-i-init
loop-i-init c = (zero-le, paste-zero c.args.table.now c.args.at c.args.words.now, refl, omega arith)

pub loop-i-preserved : goal.loop-i-preserved
loop-i-preserved c = let s = c.args in
    let l = c.loop-i in (
      omega arith,
      rw (l.invariant.1, add-one) (paste-suc _ s.at _ l.i 0 (omega arith) c.loop-i-test.true),
      simp length-set l.invariant.2,
      omega arith,
    )

pub shape_of-table : goal.shape_of-table
shape_of-table c = c.loop-i.invariant.2

pub returns : goal.returns
unfolding put
returns c = let s = c.args in
    let e : c.loop-i.i ≡ length s.words.now = omega arith in
    rw (c.loop-i.invariant.1, e, take-length) (simp (le-leb _ _ c.loop-i.invariant.3))
