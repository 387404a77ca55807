-- `page_encoding::write::write_page` meets its contract, of a Bit page, a split page and a plain page. Assumes nothing.
use mathlib.Core.Path.{◌≡◌, refl, sym, ap, ap₂, ◌∙◌, subst}
use mathlib.Core.List.{List}
use mathlib.Core.Bool.{Bool, true}
use Prim.Native.Nat.{ℕ, ◌*◌, ◌/◌, ◌≤◌}
use native.Mathlib.Omega.{arith}
use lib.ListN.{length}
use borrow.Author.Tests.{ne_eqb}
use Rattle.numbers.specs.Rows.{over}
use Rattle.column_type.specs.Types.{width_of, delta, zigzag}
use Rattle.coding.specs.Layout.{WholeBytes, plain, fit}
use Rattle.split_pages.specs.Split.{split_into}
use Rattle.split_pages.proofs.Codes.{into_fit}
use Rattle.page_rules.proofs.Types.{OfBytes, of_bytes, whole, bit_width, bit_size}
use Rattle.page_rules.specs.Page.{readable, size_of}
use Rattle.page_rules.proofs.Laid.{size_of_lem}
use Rattle.page_rules.proofs.Encoding.{bytes_bit, bytes_split, bytes_plain}
use Rattle.page_encoding.proofs.write.write_page.Goals as goal

-- a readable type other than Bit has elements of whole bytes
of_whole_bytes : (t : ℕ) → readable t ≡ true → (t ≡ 6 → ⊥) → OfBytes t
of_whole_bytes t r h = of_bytes t r (ne_eqb t 6 h)

-- a page of such elements has so many bytes
room : (t n w m : ℕ) → OfBytes t → w ≡ width_of t → size_of t n ≤ m → n * (w / 8) ≤ m
room t n w m o e h = subst (λ (s : ℕ). s ≤ m) (size_of_lem t n o ∙ ap (λ (v : ℕ). n * (v / 8)) (sym e)) h

pub pack-requires : goal.pack-requires
pack-requires c = let a = c.args in
    let six = c.if-column_type-eq6.true in
    (c.requires.1, subst (λ (k : ℕ). fit k a.words.now ≡ true) (bit_width a.column_type six) c.requires.2, omega (arith, bit_size a.column_type (length a.words.now) six, c.requires.3))

pub write_plain-requires : goal.write_plain-requires
write_plain-requires c = let a = c.args in
    let w = c.width_of-width.ensures in
    let o = of_whole_bytes a.column_type c.requires.0 c.if-column_type-eq6.false in
    (subst (λ (x : ℕ). WholeBytes (x / 8)) (sym w) (whole a.column_type o).bytes, room a.column_type (length a.words.now) _ (length a.out.now) o w c.requires.3)

pub returns-then-column_type-eq6 : goal.returns-then-column_type-eq6
returns-then-column_type-eq6 c = c.pack.ensures ∙ ap (λ (l : List ℕ). over l c.args.out.now) (bytes_bit c.args.column_type c.args.words.now c.if-column_type-eq6.true)

pub returns-then-is_split : goal.returns-then-is_split
returns-then-is_split c = let a = c.args in
    let t : ℕ = a.column_type in
    let xs : List ℕ = a.words.now in
    let h = sym c.is_split.ensures ∙ c.if-is_split.true in
    let o = of_whole_bytes t c.requires.0 c.if-column_type-eq6.false in
    c.write_split.ensures
    ∙ ap₂ (λ (d z : Bool). split_into d z c.width_of-width.result xs a.out.now) c.is_delta-delta.ensures c.is_zigzag-zigzag.ensures
    ∙ ap (λ (v : ℕ). split_into (delta t) (zigzag t) v xs a.out.now) c.width_of-width.ensures
    ∙ into_fit (delta t) (zigzag t) (width_of t) xs a.out.now (o.of_split_lem h) o.of_delta_lem c.requires.2 (room t (length xs) (width_of t) (length a.out.now) o refl c.requires.3)
    ∙ ap (λ (l : List ℕ). over l a.out.now) (bytes_split t xs (ne_eqb t 6 c.if-column_type-eq6.false) h)

pub returns-else-is_split : goal.returns-else-is_split
returns-else-is_split c = let a = c.args in
    let t : ℕ = a.column_type in
    let xs : List ℕ = a.words.now in
    let no_bit = c.if-column_type-eq6.false in
    let h = sym c.is_split.ensures ∙ c.if-is_split.false in
    let marks = (of_whole_bytes t c.requires.0 no_bit).of_plain h in
    c.write_plain.ensures
    ∙ ap (λ (w : ℕ). over (plain (w / 8) xs) a.out.now) c.width_of-width.ensures
    ∙ ap (λ (l : List ℕ). over l a.out.now) (bytes_plain t xs (ne_eqb t 6 no_bit) h marks.0 marks.1)
