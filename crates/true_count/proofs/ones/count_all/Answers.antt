use Prim.Native.Nat.{◌+◌, ◌-◌, ◌*◌, ◌/◌}
use mathlib.Core.Path.{◌≡◌, sym}
use native.Mathlib.Omega.{arith}
use lib.ListN.{length}
use Rattle.numbers.specs.Numbers.{little}
use Rattle.true_count.proofs.Bits.{ones_none, part_read, counted_more}
use Rattle.true_count.proofs.ones.count_all.Goals as goal

pub loop-i-init : goal.loop-i-init
unfolding little
loop-i-init c = (omega arith, sym ones_none)

pub overflow_add-total : goal.overflow_add-total
overflow_add-total c = omega (arith, c.count-total.ensures.1)

pub loop-i-preserved : goal.loop-i-preserved
loop-i-preserved c = let l = c.loop-i in
    let s = c.args.s.now in
    let w = part_read 8 (8 * l.i) _ s (omega arith) c.little_8.ensures in (
      omega (arith, c.count-total.ensures.1),
      counted_more s (λ j. omega (arith, c.type_inv.s j)) 0 (8 * l.i) 8 (8 * l.i) (8 * (l.i + 1)) l.total _ _
          (omega arith) (omega arith) l.invariant.1 w c.count-total.ensures.0,
    )

pub overflow_add-result : goal.overflow_add-result
overflow_add-result c = omega (arith, c.count.ensures.1)

pub returns : goal.returns
returns c = let l = c.loop-i in
    let s = c.args.s.now in
    let i : l.i ≡ length s / 8 = omega arith in
    counted_more s (λ j. omega (arith, c.type_inv.s j)) 0 (8 * (length s / 8)) (length s - 8 * (length s / 8)) (8 * (length s / 8)) (length s) l.total _ _
    (omega arith) (omega arith) (rw i at l.invariant.1) c.last_word.ensures c.count.ensures.0
