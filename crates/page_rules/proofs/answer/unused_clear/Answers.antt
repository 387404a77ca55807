-- `page_rules::answer::unused_clear` meets its contract. Assumes nothing.
use mathlib.Core.Path.{◌≡◌, ap, ◌∙◌}
use Prim.Native.Nat.{ℕ, ◌+◌, ◌/◌, ◌%◌}
use native.Mathlib.Nat.{mul-one}
use native.Mathlib.Omega.{arith}
use Rattle.numbers.specs.Numbers.{bytes_for}
use Rattle.page_rules.proofs.Widths.{bit_type_lem, no_bit}
use Rattle.page_rules.proofs.Decoding.{no_bits_above, clear_other, clear_whole, clear_byte}
use Rattle.page_rules.proofs.answer.unused_clear.Goals as goal

pub bounds-page-n : goal.bounds-page-n
bounds-page-n c = let u = c.if-used-eq0.false in
    let size : bytes_for c.args.n c.args.width ≡ (c.args.n + 7) / 8 =
    ap (bytes_for c.args.n) c.if-width-eq1.true ∙ ap (λ (m : ℕ). (m + 7) / 8) (mul-one c.args.n) in
    omega (arith, size, c.requires)

pub overflow_cast-result : goal.overflow_cast-result
overflow_cast-result c = omega (arith, c.type_inv.page (c.args.n / 8))

pub returns-then-used-eq0 : goal.returns-then-used-eq0
returns-then-used-eq0 c t e = let a = c.args in
    clear_whole t a.n a.page.now (bit_type_lem t a.width e c.if-width-eq1.true) c.if-used-eq0.true

pub returns-else-used-eq0 : goal.returns-else-used-eq0
returns-else-used-eq0 c t e = let a = c.args in
    no_bits_above _ (a.n % 8)
    ∙ clear_byte t a.n a.page.now (bit_type_lem t a.width e c.if-width-eq1.true) c.if-used-eq0.false

pub returns-else-width-eq1 : goal.returns-else-width-eq1
returns-else-width-eq1 c t e = let a = c.args in
    clear_other t a.n a.page.now (no_bit t a.width e c.if-width-eq1.false)
