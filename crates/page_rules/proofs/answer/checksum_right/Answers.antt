-- `page_rules::answer::checksum_right` meets its contract. Assumes nothing.
use mathlib.Core.Path.{sym, ap, ap₂, ◌∙◌}
use mathlib.Core.Bool.{Bool, true}
use lib.Dec.{eqb}
use lib.ListN.{length, take}
use lib.Seq.{length-take-le}
use Prim.Native.Nat.{◌+◌, ◌≤◌}
use native.Mathlib.Omega.{arith}
use Rattle.numbers.specs.Choice.{pick}
use Rattle.numbers.specs.Numbers.{little, trailer}
use Rattle.checksum.specs.Crc.{crc32}
use Rattle.page_rules.specs.Page.{checksum_right}
use Rattle.page_rules.proofs.answer.checksum_right.Goals as goal

pub slice_bounds-crc32-end : goal.slice_bounds-crc32-end
slice_bounds-crc32-end c = sym (length-take-le c.args.size c.args.page.now (omega (arith, c.requires)))

pub returns-then-checksum : goal.returns-then-checksum
unfolding checksum_right
returns-then-checksum c = let e = c.if-checksum.true in
    let room : c.args.size + 4 ≤ length c.args.page.now = omega (arith, c.requires ∙ ap (λ (b : Bool). c.args.size + trailer b) e) in
    ap₂ eqb c.crc32.ensures (c.little_4.ensures.0.there room)
    ∙ ap (λ (b : Bool). pick b (eqb (crc32 (take c.args.size c.args.page.now)) (little 4 c.args.page.now c.args.size)) true) (sym e)

pub returns-else-checksum : goal.returns-else-checksum
unfolding checksum_right
returns-else-checksum c = ap (λ (b : Bool). pick b (eqb (crc32 (take c.args.size c.args.page.now)) (little 4 c.args.page.now c.args.size)) true) (sym c.if-checksum.false)
