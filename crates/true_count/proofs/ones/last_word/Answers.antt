use Prim.Native.Nat.{ℕ, ◌+◌, ◌-◌, ◌*◌, ◌^◌, ◌<◌}
use mathlib.Core.Path.{◌≡◌, sym, ap₂, ◌∙◌}
use native.Mathlib.Omega.{arith}
use lib.ListN.{length}
use Rattle.numbers.specs.Numbers.{little}
use Rattle.true_count.proofs.Bits.{little_small, little_down}
use Rattle.true_count.proofs.ones.last_word.Goals.{In-loop-i}
use Rattle.true_count.proofs.ones.last_word.Goals as goal

pub loop-i-init : goal.loop-i-init
unfolding little
loop-i-init c = let n = length c.args.s.now in
    let z : n - n ≡ 0 = omega arith in
    (omega arith, rw z)

-- the word has room for one byte more
small : (c : In-loop-i) → c.loop-i.word < 2 ^ 48
small c = let s = c.args.s.now in
    rw c.loop-i.invariant.1 (little_small s (λ j. omega (arith, c.type_inv.s j)) (length s - c.loop-i.i) c.loop-i.i (omega arith))

pub overflow_mul-word : goal.overflow_mul-word
overflow_mul-word c = omega (arith, small (goal.at.overflow_mul-word c).In-loop-i)

pub overflow_add-word : goal.overflow_add-word
overflow_add-word c = omega (arith, small (goal.at.overflow_add-word c).In-loop-i)

pub loop-i-preserved : goal.loop-i-preserved
loop-i-preserved c = let s = c.args.s.now in
    let l = c.loop-i in
    (omega arith, ap₂ (λ (w b : ℕ). w * 256 + b) l.invariant.1 c.wide.ensures.0 ∙ sym (little_down s (length s) l.i (omega arith) (omega arith)))
