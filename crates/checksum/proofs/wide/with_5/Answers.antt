use mathlib.Core.Path.{ap}
use Prim.Native.Nat.{ℕ}
use native.Mathlib.Omega.{arith}
use lib.Bits.{xor_lt}
use Rattle.checksum.specs.Wide.{finish}
use Rattle.crc_register.proofs.Shifts.{xors, lefts, rights}
use Rattle.checksum.proofs.Spread.{put}
use Rattle.checksum.proofs.Turn.{put_last, least}
use Rattle.checksum.proofs.Multiples.{shifts_5, multiple_5}
use Rattle.checksum.proofs.wide.with_5.Goals as goal

pub returns-then-words-lt5 : goal.returns-then-words-lt5
returns-then-words-lt5 c = let a = c.args in
    ap (λ (k : ℕ). finish k a.bytes.now a.s) (least 4 a.words c.if-words-lt5.true)

pub returns : goal.returns
unfolding finish xors lefts rights put
returns c = let a = c.args in
    let w = c.word in
    put_last a.bytes.now (λ j. omega (arith, c.type_inv.bytes j)) 4 shifts_5 multiple_5 a.s.a a.s.b a.s.c a.s.d a.s.e w.result a.words
    (xor_lt 64 a.s.a w.result (omega arith) (omega arith)) w.ensures (omega (arith, c.if-words-lt5.false)) c.requires
