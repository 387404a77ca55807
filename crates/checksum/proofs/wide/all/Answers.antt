use mathlib.Core.Path.{sym, ap, ◌∙◌}
use Prim.Native.Nat.{ℕ}
use native.Mathlib.Nat.{min-zero}
use Rattle.checksum.specs.Wide.{finish}
use Rattle.checksum.proofs.wide.all.Goals as goal

pub returns : goal.returns
returns c = let a = c.args in
    ap (λ (k : ℕ). finish k a.bytes.now c.with_1.result) (sym (min-zero a.words))
    ∙ c.with_1.ensures
    ∙ c.with_2-s1.ensures
    ∙ c.with_3-s2.ensures
    ∙ c.with_4-s3.ensures
    ∙ c.with_5-s4.ensures
    ∙ c.many-s5.ensures
