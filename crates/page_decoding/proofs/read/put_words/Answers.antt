use Rattle.std.proofs.Common.{refl, arith}
use Rattle.planes.proofs.Filling.{fill_turn}
use Rattle.page_decoding.proofs.read.put_words.Goals as goal

pub loop-j-preserved : goal.loop-j-preserved
loop-j-preserved c = let l = c.loop-j in
    let t = c.loop-j-test.true in
    fill_turn c.args.words.now c.args.out.now l.out l.j _ l.invariant (omega arith) (omega (arith, c.requires)) refl
