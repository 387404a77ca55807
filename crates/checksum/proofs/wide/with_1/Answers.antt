use mathlib.Core.Path.{ap}
use Prim.Native.Nat.{ℕ}
use native.Mathlib.Omega.{arith}
use Rattle.checksum.specs.Wide.{finish}
use Rattle.checksum.proofs.Turn.{through_last, least}
use Rattle.checksum.proofs.wide.with_1.Goals as goal

pub returns-then-words-lt1 : goal.returns-then-words-lt1
returns-then-words-lt1 c = let a = c.args in
    ap (λ (k : ℕ). finish k a.bytes.now a.s) (least 0 a.words c.if-words-lt1.true)

pub returns : goal.returns
unfolding finish
returns c = let w = c.word in
    let a = c.args in
    through_last a.bytes.now (λ j. omega (arith, c.type_inv.bytes j)) a.s.a a.s.b a.s.c a.s.d a.s.e w.result c.reduce.result a.words
    w.ensures c.reduce.ensures (omega (arith, c.if-words-lt1.false)) c.requires
