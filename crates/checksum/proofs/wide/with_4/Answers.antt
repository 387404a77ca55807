use mathlib.Core.Path.{ap}
use Prim.Native.Nat.{ℕ}
use native.Mathlib.Omega.{arith}
use lib.Bits.{xor_lt}
use Rattle.checksum.specs.Wide.{finish}
use Rattle.crc_register.proofs.Shifts.{xors, lefts, rights}
use Rattle.checksum.proofs.Spread.{put}
use Rattle.checksum.proofs.Turn.{put_last, least}
use Rattle.checksum.proofs.Multiples.{shifts_4, multiple_4}
use Rattle.checksum.proofs.wide.with_4.Goals as goal

pub returns-then-words-lt4 : goal.returns-then-words-lt4
returns-then-words-lt4 c = let a = c.args in
    ap (λ (k : ℕ). finish k a.bytes.now a.s) (least 3 a.words c.if-words-lt4.true)

pub returns : goal.returns
unfolding finish xors lefts rights put
returns c = let a = c.args in
    let w = c.word in
    put_last a.bytes.now (λ j. omega (arith, c.type_inv.bytes j)) 3 shifts_4 multiple_4 a.s.a a.s.b a.s.c a.s.d a.s.e w.result a.words
    (xor_lt 64 a.s.a w.result (omega arith) (omega arith)) w.ensures (omega (arith, c.if-words-lt4.false)) c.requires
