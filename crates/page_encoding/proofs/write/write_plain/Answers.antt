-- `page_encoding::write::write_plain` meets its contract: most of the page, then the rest. Assumes nothing.
use mathlib.Core.Path.{◌≡◌, refl, ap, ◌∙◌}
use mathlib.Core.List.{List}
use Prim.Native.Nat.{ℕ, ◌+◌, ◌-◌}
use native.Mathlib.Omega.{arith}
use lib.ListN.{length, take, drop}
use lib.Seq.{take-length}
use Rattle.numbers.specs.Rows.{over}
use Rattle.coding.specs.Layout.{plain}
use Rattle.coding.proofs.Plain.{plain_part}
use Rattle.page_encoding.proofs.write.write_plain.Goals as goal

pub returns : goal.returns
returns c = let a = c.args in
    let m = c.write_most-done in
    let xs = a.words.now in
    let n = length xs - m.result in
    let all : m.result + n ≡ length xs = omega (arith, m.ensures.0) in
    plain_part a.k m.result n xs a.out.now (take n (drop m.result xs)) m.new.out _ m.ensures.0 refl m.ensures.1 c.write_each.ensures
    ∙ ap (λ (ys : List ℕ). over (plain a.k ys) a.out.now) (ap (λ (i : ℕ). take i xs) all ∙ take-length xs)
