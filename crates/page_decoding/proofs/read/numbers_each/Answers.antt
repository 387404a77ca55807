use Rattle.std.proofs.Common.{sym, ◌∙◌, arith}
use Rattle.coding.specs.Layout.{unplain}
use Rattle.coding.proofs.Plain.{length_unplain, get_or_unplain}
use Rattle.planes.proofs.Filling.{fill_turn, fill_done}
use Rattle.page_decoding.proofs.read.numbers_each.Goals as goal

pub loop-i-preserved : goal.loop-i-preserved
loop-i-preserved c = let a = c.args in
    let l = c.loop-i in
    let n = length_unplain a.k a.n a.bytes.now in
    let t = c.loop-i-test.true in
    fill_turn (unplain a.k a.n a.bytes.now) a.out.now l.out l.i c.number_at.result l.invariant (omega arith) (omega arith)
    (c.number_at.ensures ∙ sym (get_or_unplain a.k a.n a.bytes.now l.i t))

pub returns : goal.returns
returns c = let a = c.args in
    let n = length_unplain a.k a.n a.bytes.now in
    c.loop-i.invariant.0 ∙ fill_done (unplain a.k a.n a.bytes.now) a.out.now c.loop-i.i (omega arith)
