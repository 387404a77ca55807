use Rattle.std.proofs.Common.{◌*◌, ◌∙◌, arith}
use Rattle.coding.specs.Layout.{plain}
use Rattle.coding.proofs.Plain.{length_plain}
use Rattle.planes.proofs.Filling.{fill_done}
use Rattle.page_decoding.proofs.Blocks.{pair_turn}
use Rattle.page_decoding.proofs.read.put_bytes.Goals as goal

pub loop-j-preserved : goal.loop-j-preserved
loop-j-preserved c = let l = c.loop-j in
    pair_turn c.args.words.now c.args.out.now l.out l.j c.loop-j-test.true c.requires l.invariant

pub returns : goal.returns
returns c = let a = c.args in
    let l = c.loop-j in
    l.invariant.0 ∙ fill_done (plain 2 a.words.now) a.out.now (2 * l.j) (omega (arith, length_plain 2 a.words.now))
