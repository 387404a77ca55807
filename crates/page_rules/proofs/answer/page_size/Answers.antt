-- `page_rules::answer::page_size` meets its contract. Assumes nothing.
use mathlib.Core.Path.{refl}
use Prim.Native.Nat.{◌*◌, ◌≤◌}
use native.Mathlib.Nat.{mul-le-mul}
use native.Mathlib.Omega.{arith}
use Rattle.page_rules.specs.Page.{most_elements}
use Rattle.page_rules.proofs.Widths.{read_most}
use Rattle.page_rules.proofs.answer.page_size.Goals as goal

pub overflow_mul-result : goal.overflow_mul-result
overflow_mul-result c = let few : c.args.n * c.args.width ≤ most_elements * 64 = mul-le-mul c.requires.1 (read_most c.args.width c.requires.0) in
    omega (arith, few)

pub overflow_add-result : goal.overflow_add-result
overflow_add-result c = let few : c.args.n * c.args.width ≤ most_elements * 64 = mul-le-mul c.requires.1 (read_most c.args.width c.requires.0) in
    omega (arith, few)

pub returns : goal.returns
returns c = let few : c.args.n * c.args.width ≤ most_elements * 64 = mul-le-mul c.requires.1 (read_most c.args.width c.requires.0) in
    (refl, omega (arith, few))
