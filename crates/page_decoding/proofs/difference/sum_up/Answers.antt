use Rattle.std.proofs.Common.{◌≡◌, ℕ, ◌+◌, ◌%◌, ◌^◌, List, get_or, take, drop, sym, ap, ◌∙◌, arith, length-take-le, get_or-take}
use Rattle.coding.specs.Layout.{sums}
use Rattle.coding.proofs.Delta.{length_sums, sums_turn}
use Rattle.planes.proofs.Filling.{fill_turn, fill_read, fill_done}
use Rattle.page_decoding.proofs.difference.sum_up.Goals as goal

pub loop-i-preserved : goal.loop-i-preserved
loop-i-preserved c = let a = c.args in
    let l = c.loop-i in
    let w : ℕ = a.width in
    let ds : List ℕ = take a.n a.out.now in
    let n = length_sums w 0 ds in
    let m = length-take-le a.n a.out.now c.requires.1 in
    let t = c.loop-i-test.true in
    let s = sums_turn w l.before l.i (sums w 0 ds) ds (omega arith) l.invariant.1 in
    let r : get_or l.out l.i 0 ≡ get_or ds l.i 0 =
    ap (λ (o : List ℕ). get_or o l.i 0) l.invariant.0.0 ∙ fill_read (sums w 0 ds) a.out.now l.i (omega arith)
    ∙ sym (get_or-take a.n a.out.now l.i 0 t) in
    let v : c.sum-before.result ≡ (l.before + get_or ds l.i 0) % 2 ^ w =
    c.sum-before.ensures ∙ ap (λ (x : ℕ). (l.before + x) % 2 ^ w) r in (
      fill_turn (sums w 0 ds) a.out.now l.out l.i c.sum-before.result l.invariant.0 (omega arith) (omega arith) (v ∙ sym s.0),
      s.1 ∙ ap (λ (b : ℕ). sums w b (drop (l.i + 1) ds)) (sym v),
    )

pub returns : goal.returns
returns c = let a = c.args in
    let ds : List ℕ = take a.n a.out.now in
    let n = length_sums a.width 0 ds in
    let m = length-take-le a.n a.out.now c.requires.1 in
    c.loop-i.invariant.0.0 ∙ fill_done (sums a.width 0 ds) a.out.now c.loop-i.i (omega arith)
