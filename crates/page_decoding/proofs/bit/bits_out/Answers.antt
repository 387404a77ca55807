use Rattle.std.proofs.Common.{◌≡◌, ℕ, ◌+◌, ◌*◌, ◌/◌, ◌%◌, ◌^◌, get_or, sym, ◌∙◌, ap₂, arith}
use Rattle.coding.specs.Layout.{unpacked}
use Rattle.coding.proofs.Bits.{length_unpacked, get_or_unpacked}
use Rattle.planes.proofs.Filling.{fill_turn, fill_done}
use Rattle.page_decoding.proofs.bit.bits_out.Goals as goal

pub loop-j-preserved : goal.loop-j-preserved
loop-j-preserved c = let a = c.args in
    let l = c.loop-j in
    let bits = unpacked a.count (8 * a.m) a.page.now in
    let n = length_unpacked a.count (8 * a.m) a.page.now in
    let u : (8 * a.m + l.j) / 8 ≡ a.m = omega arith in
    let v : (8 * a.m + l.j) % 8 ≡ l.j = omega arith in
    fill_turn bits a.out.now l.out l.j _ l.invariant (omega arith) (omega arith)
    (sym (get_or_unpacked a.count (8 * a.m) a.page.now l.j c.loop-j-test.true
    ∙ ap₂ (λ (x y : ℕ). get_or a.page.now x 0 / 2 ^ y % 2) u v))

pub returns : goal.returns
returns c = let a = c.args in
    let n = length_unpacked a.count (8 * a.m) a.page.now in
    c.loop-j.invariant.0 ∙ fill_done (unpacked a.count (8 * a.m) a.page.now) a.out.now c.loop-j.j (omega arith)
