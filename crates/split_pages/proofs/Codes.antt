-- The numbers that are stored for elements: what stands at a place, and that of elements that fit they are those of the page's definition.
-- Assumes nothing.
use Rattle.std.proofs.Common.{◌≡◌, ℕ, zero, suc, ◌+◌, ◌-◌, ◌*◌, ◌/◌, ◌%◌, ◌^◌, ◌<◌, ◌≤◌, Bool, true, false, not, leb, List, [], ◌∷◌, map, length, get_or, sym, refl, ap, ◌∙◌, subst, ap₂, ⊎_elim, le_of_suc-le-suc, not-suc-le-zero, mod-eq_of_lt, arith, pow_pos, le-leb}
use mathlib.Core.Bool.{false≢true}
use borrow.Author.Tests.{lt-leb}
use Rattle.numbers.specs.Choice.{pick, both}
use Rattle.numbers.specs.Rows.{over}
use Rattle.coding.specs.Layout.{DeltaWidth, SplitWidth, deltas, zigzagged, planes, fit, coded_by}
use Rattle.coding.specs.Inverses.{Below}
use Rattle.coding.proofs.Below.{fit_below}
use Rattle.split_pages.specs.Split.{element_code, codes, splits, split_into}

module _ (d z : Bool) (w : ℕ) where
  pub length_codes : (b : ℕ) (xs : List ℕ) → length (codes d z w b xs) ≡ length xs
  unfolding codes
  length_codes b [] = refl
  length_codes b (x ∷ xs) = ap suc (length_codes x xs)

  pub code_first : (b : ℕ) (xs : List ℕ) (i : ℕ) → i ≡ 0 → i < length xs → element_code d z w b (get_or xs i 0) ≡ get_or (codes d z w b xs) i 0
  unfolding codes
  code_first b [] i e h = absurd (not-suc-le-zero h)
  code_first b (x ∷ xs) zero e h = refl
  code_first b (x ∷ xs) (suc i) e h = absurd (omega arith)

  pub code_later : (b : ℕ) (xs : List ℕ) (i : ℕ) → suc i < length xs → element_code d z w (get_or xs i 0) (get_or xs (suc i) 0) ≡ get_or (codes d z w b xs) (suc i) 0
  unfolding codes
  code_later b [] i h = absurd (not-suc-le-zero h)
  code_later b (x ∷ []) i h = absurd (not-suc-le-zero (le_of_suc-le-suc h))
  code_later b (x ∷ y ∷ xs) zero h = refl
  code_later b (x ∷ y ∷ xs) (suc i) h = code_later x (y ∷ xs) i (le_of_suc-le-suc h)

-- the number that is stored for an element, as the code has it

module _ (z : Bool) (w : ℕ) (xs : List ℕ) where
  pub delta_first : (d : Bool) (i : ℕ) → d ≡ true → i ≡ 0 → i < length xs
      → (get_or xs i 0 % 2 ^ w + 2 ^ w - 0 % 2 ^ w) % 2 ^ w ≡ get_or (codes d z w 0 xs) i 0
  delta_first d i e f h =
      ap (λ (b : Bool). element_code b z w 0 (get_or xs i 0)) (sym e) ∙ code_first d z w 0 xs i f h

  pub delta_later : (d : Bool) (i : ℕ) → d ≡ true → (i ≡ 0 → ⊥) → i < length xs
      → (get_or xs i 0 % 2 ^ w + 2 ^ w - get_or xs (i - 1) 0 % 2 ^ w) % 2 ^ w ≡ get_or (codes d z w 0 xs) i 0
  delta_later d zero e f h = absurd (f refl)
  delta_later d (suc i) e f h =
      let p : suc i - 1 ≡ i = omega arith in
      ap₂ (λ (b : Bool) (j : ℕ). element_code b z w (get_or xs j 0) (get_or xs (suc i) 0)) (sym e) p ∙ code_later d z w 0 xs i h

-- without delta, whatever stands before
module _ (w : ℕ) where
  pub without_delta : (d z : Bool) (b c : ℕ) (xs : List ℕ) (i : ℕ) → d ≡ false → i < length xs
      → element_code d z w c (get_or xs i 0) ≡ get_or (codes d z w b xs) i 0
  unfolding codes
  without_delta d z b c [] i e h = absurd (not-suc-le-zero h)
  without_delta true z b c (x ∷ xs) i e h = absurd (false≢true (sym e))
  without_delta false z b c (x ∷ xs) zero e h = refl
  without_delta false z b c (x ∷ xs) (suc i) e h = without_delta false z x c xs i e (le_of_suc-le-suc h)

pub zigzag_place : (d z : Bool) (w : ℕ) (xs : List ℕ) (i : ℕ) → d ≡ false → z ≡ true → i < length xs
    → zigzagged w (get_or xs i 0 % 2 ^ w) ≡ get_or (codes d z w 0 xs) i 0
zigzag_place d z w xs i e f h =
    ap₂ (λ (a b : Bool). element_code a b w 0 (get_or xs i 0)) (sym e) (sym f) ∙ without_delta w d z 0 0 xs i e h

pub same_place : (d z : Bool) (w : ℕ) (xs : List ℕ) (i : ℕ) → d ≡ false → z ≡ false → i < length xs
    → get_or xs i 0 ≡ get_or (codes d z w 0 xs) i 0
same_place d z w xs i e f h =
    ap₂ (λ (a b : Bool). element_code a b w 0 (get_or xs i 0)) (sym e) (sym f) ∙ without_delta w d z 0 0 xs i e h

-- elements that fit

codes_delta : (z : Bool) (w b : ℕ) (xs : List ℕ) → b < 2 ^ w → Below (2 ^ w) xs → codes true z w b xs ≡ deltas w b xs
unfolding codes deltas
codes_delta z w b [] h l = refl
codes_delta z w b (x ∷ xs) h l =
    ap₂ (λ (y : ℕ) (ys : List ℕ). y ∷ ys)
    (ap₂ (λ (p q : ℕ). (p + 2 ^ w - q) % 2 ^ w) (mod-eq_of_lt l.0) (mod-eq_of_lt h)) (codes_delta z w x xs l.0 l.1)

codes_zigzag : (w b : ℕ) (xs : List ℕ) → Below (2 ^ w) xs → codes false true w b xs ≡ map (zigzagged w) xs
unfolding codes
codes_zigzag w b [] l = refl
codes_zigzag w b (x ∷ xs) l = ap₂ (λ (y : ℕ) (ys : List ℕ). y ∷ ys) (ap (zigzagged w) (mod-eq_of_lt l.0)) (codes_zigzag w x xs l.1)

codes_same : (w b : ℕ) (xs : List ℕ) → codes false false w b xs ≡ xs
unfolding codes
codes_same w b [] = refl
codes_same w b (x ∷ xs) = ap (λ (ys : List ℕ). x ∷ ys) (codes_same w x xs)

codes_fit : (d z : Bool) (w : ℕ) (xs : List ℕ) → Below (2 ^ w) xs → codes d z w 0 xs ≡ coded_by d z w xs
codes_fit true z w xs l = codes_delta z w 0 xs (pow_pos w) l
codes_fit false true w xs l = codes_zigzag w 0 xs l
codes_fit false false w xs l = codes_same w 0 xs

-- the widths

at_16 : (d : Bool) → (d ≡ true → DeltaWidth 16) → not d ≡ true
at_16 true h = absurd (⊎_elim (λ (e : 16 ≡ 32). omega arith) (λ (e : 16 ≡ 64). omega arith) (h refl))
at_16 false h = refl

pub widths_split : (d : Bool) (w : ℕ) → SplitWidth w → (d ≡ true → DeltaWidth w) → splits d w ≡ true
widths_split d w s h =
    ⊎_elim (λ (e : w ≡ 16). subst (λ (v : ℕ). splits d v ≡ true) (sym e) (at_16 d (subst (λ (v : ℕ). d ≡ true → DeltaWidth v) e h)))
    (⊎_elim (λ (e : w ≡ 32). ap (splits d) e) (λ (e : w ≡ 64). ap (splits d) e)) s

-- lent bytes after a page

module _ (d z : Bool) (w : ℕ) (xs old : List ℕ) where
  pub into_no_split : splits d w ≡ false → old ≡ split_into d z w xs old
  unfolding split_into
  into_no_split s =
      ap (λ (a : Bool). pick (both a (leb (length xs * (w / 8)) (length old))) (over (planes (w / 8) (codes d z w 0 xs)) old) old) (sym s)

  pub into_no_room : splits d w ≡ true → length old < length xs * (w / 8) → old ≡ split_into d z w xs old
  unfolding split_into
  into_no_room s r =
      ap₂ (λ (a b : Bool). pick (both a b) (over (planes (w / 8) (codes d z w 0 xs)) old) old) (sym s) (sym (lt-leb (length xs * (w / 8)) (length old) r))

  pub into_room : splits d w ≡ true → length xs * (w / 8) ≤ length old → split_into d z w xs old ≡ over (planes (w / 8) (codes d z w 0 xs)) old
  unfolding split_into
  into_room s r =
      ap₂ (λ (a b : Bool). pick (both a b) (over (planes (w / 8) (codes d z w 0 xs)) old) old) s (le-leb (length xs * (w / 8)) (length old) r)

  pub into_fit : SplitWidth w → (d ≡ true → DeltaWidth w) → fit w xs ≡ true → length xs * (w / 8) ≤ length old
      → split_into d z w xs old ≡ over (planes (w / 8) (coded_by d z w xs)) old
  into_fit s h f r =
      into_room (widths_split d w s h) r ∙ ap (λ (l : List ℕ). over (planes (w / 8) l) old) (codes_fit d z w xs (fit_below w xs f))
