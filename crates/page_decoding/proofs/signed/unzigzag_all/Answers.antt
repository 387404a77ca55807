use Rattle.std.proofs.Common.{◌≡◌, ℕ, List, map, get_or, take, sym, ap, ◌∙◌, arith, length-take-le, get_or-take}
use lib.ListN.{length-map}
use Rattle.coding.specs.Layout.{unzigzagged}
use Rattle.planes.proofs.Filling.{fill_turn, fill_read, get_or_mapped}
use Rattle.page_decoding.proofs.signed.unzigzag_all.Goals as goal

pub loop-i-preserved : goal.loop-i-preserved
loop-i-preserved c = let a = c.args in
    let l = c.loop-i in
    let f : ℕ → ℕ = unzigzagged a.width in
    let ds : List ℕ = take a.n a.out.now in
    let n = length-map ds f in
    let m = length-take-le a.n a.out.now c.requires.1 in
    let old_word : get_or l.out l.i 0 ≡ get_or ds l.i 0 =
    ap (λ (o : List ℕ). get_or o l.i 0) l.invariant.0 ∙ fill_read (map f ds) a.out.now l.i (omega arith)
    ∙ sym (get_or-take a.n a.out.now l.i 0 c.loop-i-test.true) in
    fill_turn (map f ds) a.out.now l.out l.i _ l.invariant (omega arith) (omega arith)
    (c.unzigzag.ensures ∙ ap f old_word ∙ sym (get_or_mapped f ds l.i (omega arith)))
