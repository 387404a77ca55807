-- Split pages: the numbers that the planes gave, and what delta or zigzag makes of them.
--     small         each is below 2 to the width
--     with_delta    their running sums are the elements of a type with delta
--     with_zigzag   what they are zigzag forms of, of a type with zigzag
--     with_neither  they are the elements of any other split type
-- Assumes nothing.
use Rattle.std.proofs.Common.{◌≡◌, ℕ, ◌*◌, ◌/◌, ◌^◌, ◌<◌, ◌≤◌, true, false, List, map, length, get_or, take, sym, ap, ◌∙◌, subst, ap₂, mul_comm, arith, ne_eqb}
use lib.ListN.{length-map, get_or-append}
use Rattle.column_type.specs.Types.{width_of, split, delta, zigzag}
use Rattle.numbers.specs.Numbers.{bytes_for}
use Rattle.numbers.specs.Rows.{over}
use Rattle.coding.specs.Layout.{sums, unzigzagged, unplanes}
use Rattle.coding.specs.Inverses.{Below}
use Rattle.coding.proofs.Below.{below_at}
use Rattle.coding.proofs.Delta.{length_sums}
use Rattle.coding.proofs.Planes.{length_unplanes}
use Rattle.coding.proofs.Strided.{below_unplanes}
use Rattle.page_rules.specs.Page.{laid, elements}
use Rattle.page_rules.specs.Widths.{read_width}
use Rattle.page_rules.proofs.Types.{Whole}
use Rattle.page_rules.proofs.Widths.{bytes_width, whole_width, no_bit}
use Rattle.page_rules.proofs.Laid.{whole_size, whole_power, laid_split, take_over, over_over, elements_delta, elements_zigzag, elements_laid}

module _ (w n : ℕ) (page words out : List ℕ) (read : read_width w ≡ true) (no_bits : w ≡ 1 → ⊥) (room : bytes_for n w ≤ length page)
    (written : out ≡ over (unplanes (w / 8) n page) words) where
  abbrev numbers : List ℕ
  numbers = unplanes (w / 8) n page

  whole : Whole w
  whole = whole_width w (bytes_width w read no_bits)

  enough : w / 8 * n ≤ length page
  enough = subst (λ (m : ℕ). m ≤ length page) (whole_size w n whole ∙ mul_comm n (w / 8)) room

  of_type : (t : ℕ) → w ≡ width_of t → split t ≡ true → numbers ≡ laid t n page
  of_type t e s = ap (λ (v : ℕ). unplanes (v / 8) n page) e ∙ sym (laid_split t n page (ne_eqb t 6 (no_bit t w e no_bits)) s)

  changed : (f : List ℕ → List ℕ) → length (f numbers) ≡ length numbers → over (f (take n out)) out ≡ over (f numbers) words
  changed f e =
      ap (λ (o : List ℕ). over (f (take n o)) o) written
      ∙ ap (λ (l : List ℕ). over (f l) (over numbers words)) (take_over numbers words n (length_unplanes (w / 8) n page enough))
      ∙ over_over (f numbers) numbers words e

  pub small : Below 256 page → (i : ℕ) → i < n → get_or out i 0 < 2 ^ w
  small octets i h =
      let l : i < length numbers = omega (arith, length_unplanes (w / 8) n page enough) in
      subst (λ (x : ℕ). x < 2 ^ w) (sym (ap (λ (o : List ℕ). get_or o i 0) written ∙ get_or-append numbers _ 0 i l))
      (below_at (2 ^ w) numbers (subst (λ (m : ℕ). Below m numbers) (whole_power w whole) (below_unplanes (w / 8) n page enough octets)) i l)

  pub with_delta : (t : ℕ) → w ≡ width_of t → split t ≡ true → delta t ≡ true → over (sums w 0 (take n out)) out ≡ over (elements t n page) words
  with_delta t e s d =
      changed (λ l. sums w 0 l) (length_sums w 0 numbers)
      ∙ ap (λ (l : List ℕ). over l words) (ap₂ (λ (v : ℕ) (l : List ℕ). sums v 0 l) e (of_type t e s) ∙ sym (elements_delta t n page d))

  pub with_zigzag : (t : ℕ) → w ≡ width_of t → split t ≡ true → delta t ≡ false → zigzag t ≡ true
      → over (map (unzigzagged w) (take n out)) out ≡ over (elements t n page) words
  with_zigzag t e s d z =
      changed (λ l. map (unzigzagged w) l) (length-map numbers (unzigzagged w))
      ∙ ap (λ (l : List ℕ). over l words) (ap₂ (λ (v : ℕ) (l : List ℕ). map (unzigzagged v) l) e (of_type t e s) ∙ sym (elements_zigzag t n page d z))

  pub with_neither : (t : ℕ) → w ≡ width_of t → split t ≡ true → delta t ≡ false → zigzag t ≡ false → out ≡ over (elements t n page) words
  with_neither t e s d z = written ∙ ap (λ (l : List ℕ). over l words) (of_type t e s ∙ sym (elements_laid t n page d z))
