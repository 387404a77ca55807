use Prim.Native.Nat.{◌+◌, ◌-◌}
use mathlib.Core.Path.{refl}
use native.Mathlib.Omega.{arith}
use borrow.Author.Tests.{le-leb, lt-leb}
use lib.ListN.{length}
use lib.Seq.{take-length}
use Rattle.std.proofs.lemmas.Slice.{put_mid-paste}
use Rattle.report.specs.Line.{added}
use Rattle.report.proofs.with_text.Goals as goal

pub returns-then-start-gt128 : goal.returns-then-start-gt128
unfolding added
returns-then-start-gt128 c = let a = c.args in
    simp (lt-leb (a.line.len + length a.text.now) 128 (omega arith))

pub returns-then-start-text : goal.returns-then-start-text
unfolding added
returns-then-start-text c = let a = c.args in
    simp (lt-leb (a.line.len + length a.text.now) 128 (omega arith))

pub returns : goal.returns
unfolding added
returns c =
    let line = c.args.line in
    let text = c.args.text.now in
    let n = length text in
    let written = put_mid-paste line.len (line.len + n - line.len) line.bytes c.copy_from_slice.new.self text n c.copy_from_slice.ensures.after (omega arith) refl in
    rw (written, take-length) (simp (le-leb (line.len + n) 128 (omega arith)))
