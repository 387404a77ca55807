use native.Mathlib.Omega.{arith}
use lib.Bits.{xor_lt}
use Rattle.checksum.specs.Wide.{finish}
use Rattle.crc_register.proofs.Shifts.{xors, lefts, rights}
use Rattle.checksum.proofs.Spread.{put}
use Rattle.checksum.proofs.Turn.{put_on}
use Rattle.checksum.proofs.Multiples.{shifts_6, multiple_6}
use Rattle.checksum.proofs.wide.next.Goals as goal

pub returns : goal.returns
unfolding finish xors lefts rights put
returns c = let w = c.word in
    let a = c.args in
    put_on a.bytes.now (λ j. omega (arith, c.type_inv.bytes j)) 5 shifts_6 multiple_6 a.s.a a.s.b a.s.c a.s.d a.s.e
    w.result a.left (xor_lt 64 a.s.a w.result (omega arith) (omega arith)) w.ensures c.requires.0 c.requires.1
