-- `page_encoding::write::write_checked` meets its contract, with a checksum and without. Assumes nothing.
use Rattle.checksum.specs.Crc.{crc32}
use Rattle.page_rules.proofs.Encoding.{length_bytes, with_checksum_lem, without_checksum}
use Rattle.coding.specs.Strides.{puts}
use Rattle.numbers.specs.Rows.{over}
use Rattle.numbers.specs.Numbers.{trailer}
use Rattle.page_rules.specs.Page.{size_of, bytes, checked_page}
use mathlib.Core.Path.{◌≡◌, sym, ap, ◌∙◌}
use mathlib.Core.List.{List}
use mathlib.Core.Bool.{Bool}
use Prim.Native.Nat.{ℕ, ◌+◌, ◌-◌}
use native.Mathlib.Omega.{arith}
use lib.ListN.{length, take}
use Rattle.page_encoding.proofs.write.write_checked.Goals as goal

pub returns-then-checksum : goal.returns-then-checksum
returns-then-checksum c = let a = c.args in
    let bs : List ℕ = bytes a.column_type a.words.now in
    let h : a.size ≡ size_of a.column_type (length a.words.now) + 4 = c.requires.3 ∙ ap (λ (b : Bool). size_of a.column_type (length a.words.now) + trailer b) c.if-checksum.true in
    let z : length bs ≡ a.size - 4 = length_bytes a.column_type a.words.now c.requires.0 ∙ omega arith in
    c.add_checksum.ensures
    ∙ ap (λ (o : List ℕ). puts 4 (crc32 (take (a.size - 4) o)) (a.size - 4) o) c.write_page.ensures
    ∙ with_checksum_lem bs a.out.now (a.size - 4) z (omega (arith, c.requires.4))
    ∙ ap (λ (b : Bool). over (checked_page b bs) a.out.now) (sym c.if-checksum.true)

pub returns-else-checksum : goal.returns-else-checksum
returns-else-checksum c = let a = c.args in
    let bs : List ℕ = bytes a.column_type a.words.now in
    c.write_page.ensures ∙ without_checksum bs a.out.now
    ∙ ap (λ (b : Bool). over (checked_page b bs) a.out.now) (sym c.if-checksum.false)
