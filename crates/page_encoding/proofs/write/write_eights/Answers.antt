use mathlib.Core.Path.{◌≡◌, refl, ap, ◌∙◌}
use Prim.Native.Nat.{ℕ, ◌+◌, ◌*◌}
use native.Mathlib.Omega.{arith}
use lib.ListN.{take}
use borrow.Author.Rules.{rules}
use Rattle.numbers.specs.Rows.{over}
use Rattle.coding.specs.Layout.{plain}
use Rattle.coding.proofs.Plain.{plain_part, plain_fits}
use Rattle.page_encoding.proofs.write.write_eights.Goals as goal

pub loop-m-init : goal.loop-m-init
unfolding plain
loop-m-init c = (refl, refl)

pub write_each-requires : goal.write_each-requires
write_each-requires c = let l = c.loop-m in
    let e = c.eight_words-eight in
    plain_fits c.args.k (8 * l.m) 8 c.args.words.now e.result l.out (omega arith) e.ensures (omega (arith, c.requires, l.invariant.1))

pub loop-m-preserved : goal.loop-m-preserved
loop-m-preserved c = let a = c.args in
    let l = c.loop-m in
    let e = c.eight_words-eight in
    let next : 8 * l.m + 8 ≡ 8 * (l.m + 1) = omega arith in (
      plain_part a.k (8 * l.m) 8 a.words.now a.out.now e.result l.out _ (omega arith) e.ensures l.invariant.0 c.write_each.ensures
          ∙ ap (λ (n : ℕ). over (plain a.k (take n a.words.now)) a.out.now) next,
      search rules,
    )
