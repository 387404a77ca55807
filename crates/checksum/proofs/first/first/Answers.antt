use mathlib.Core.Path.{◌≡◌, sym, ◌∙◌}
use native.Mathlib.Omega.{arith}
use lib.Seq.{length-take-le, get_or-take}
use Rattle.checksum.proofs.Fold.{fold_one}
use Rattle.checksum.proofs.first.first.Goals as goal

pub loop-b-preserved : goal.loop-b-preserved
loop-b-preserved c = let a = c.args in
    let l = c.loop-b in
    let n = length-take-le a.count a.bytes.now c.requires in
    rw (c.byte-c.ensures, get_or-take a.count a.bytes.now l.b-index 0 (omega arith)) (sym (fold_one a.bytes.now l.c l.b-index (omega arith)) ∙ l.invariant)

pub returns : goal.returns
returns c = let a = c.args in
    let n = length-take-le a.count a.bytes.now c.requires in
    let e : a.count ≡ c.loop-b.b-index = omega arith in
    rw e c.loop-b.invariant
