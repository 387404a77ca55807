use mathlib.Core.Path.{◌≡◌, sym, ap, ◌∙◌, subst}
use mathlib.Core.List.{List}
use Prim.Native.Nat.{ℕ, ◌+◌, ◌*◌}
use native.Mathlib.Nat.{suc-mul}
use native.Mathlib.Omega.{arith}
use lib.ListN.{length, get_or}
use Rattle.coding.specs.Layout.{plain}
use Rattle.coding.proofs.Plain.{plain_place, length_plain}
use Rattle.planes.proofs.Filling.{Filled, fill_done}
use Rattle.coding.specs.Strides.{puts}
use Rattle.coding.proofs.Puts.{fill_puts, plain_byte}
use Rattle.page_encoding.proofs.write.write_each.Goals as goal

pub loop-i-preserved : goal.loop-i-preserved
loop-i-preserved c = let a = c.args in
    let l = c.loop-i in
    let t = c.loop-i-test.true in
    let xs : List ℕ = a.words.now in
    let w = plain_place a.k (length xs) l.i t in
    let n = length_plain a.k xs in
    let p = c.requires in
    let q : l.i * a.k + a.k ≡ (l.i + 1) * a.k = sym (ap (λ (m : ℕ). m * a.k) (native.Mathlib.Numerals.add-one l.i) ∙ suc-mul l.i a.k) in
    let f = fill_puts a.k (plain a.k xs) a.out.now l.out (l.i * a.k) (get_or xs l.i 0) l.invariant (omega arith) (omega arith) (λ e h. plain_byte a.k xs l.i e t h) in
    let g : Filled (plain a.k xs) a.out.now ((l.i + 1) * a.k) (puts a.k (get_or xs l.i 0) (l.i * a.k) l.out) =
    subst (λ (m : ℕ). Filled (plain a.k xs) a.out.now m (puts a.k (get_or xs l.i 0) (l.i * a.k) l.out)) q f in
    subst (λ (o : List ℕ). Filled (plain a.k xs) a.out.now ((l.i + 1) * a.k) o) (sym c.put_number.ensures) g

pub returns : goal.returns
returns c = let a = c.args in
    let l = c.loop-i in
    let xs : List ℕ = a.words.now in
    let e : l.i ≡ length xs = omega arith in
    l.invariant.0 ∙ fill_done (plain a.k xs) a.out.now (l.i * a.k) (ap (λ (m : ℕ). m * a.k) e ∙ sym (length_plain a.k xs))
