use native.Mathlib.Omega.{arith}
use Rattle.coding.proofs.PutLoop.{left_next, left_none}
use Rattle.page_encoding.proofs.number.put_number.Goals as goal

pub loop-j-preserved : goal.loop-j-preserved
loop-j-preserved c = let a = c.args in
    let l = c.loop-j in
    left_next a.k a.x a.at a.out.now l.out l.rest l.j l.invariant c.loop-j-test.true

pub returns : goal.returns
returns c = let a = c.args in
    let l = c.loop-j in
    left_none a.k a.x a.at a.out.now l.out l.rest l.j l.invariant (omega arith)
