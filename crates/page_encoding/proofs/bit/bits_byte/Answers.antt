use lib.Dec.{lit<}
use Rattle.coding.proofs.Below.{fit_below, below_any}
use Rattle.coding.proofs.Bits.{bits_turn, bits_below, bits_small}
use Rattle.coding.specs.Layout.{bits_byte, fit}
use mathlib.Core.Bool.{true}
use mathlib.Core.List.{List}
use mathlib.Core.Path.{◌≡◌, refl, ap, ◌∙◌}
use Prim.Native.Nat.{ℕ, ◌+◌, ◌*◌, ◌-◌, ◌<◌}
use native.Mathlib.Omega.{arith}
use lib.ListN.{get_or}
use Rattle.page_encoding.proofs.bit.bits_byte.Goals as goal

-- what fits one bit
bit : (words : List ℕ) → fit 1 words ≡ true → (i : ℕ) → get_or words i 0 < 2
bit words h = below_any 2 words (lit< tt) (fit_below 1 words h)

pub loop-j-init : goal.loop-j-init
unfolding bits_byte
loop-j-init c = let none : c.args.count - c.args.count ≡ 0 = omega arith in
    (rw none refl, rw none (lit< tt))

pub overflow_add-x-in-loop-j : goal.overflow_add-x-in-loop-j
overflow_add-x-in-loop-j c = let a = c.args in
    let l = c.loop-j in
    omega (arith, bits_small a.count l.j l.x c.requires.1 l.invariant.1, bit a.words.now c.requires.2 (a.from + (l.j - 1)))

pub loop-j-preserved : goal.loop-j-preserved
loop-j-preserved c = let a = c.args in
    let l = c.loop-j in
    let h = c.loop-j-test.true in
    let b = get_or a.words.now (a.from + (l.j - 1)) 0 in (
      ap (λ (x : ℕ). x * 2 + b) l.invariant.0 ∙ bits_turn a.count l.j a.from a.words.now h (omega arith) c.requires.0,
      bits_below a.count l.j l.x b h (omega arith) l.invariant.1 (bit a.words.now c.requires.2 (a.from + (l.j - 1))),
    )
