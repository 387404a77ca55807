-- What the width of a type tells of it.
-- Assumes nothing.
use mathlib.Core.Path.{◌≡◌, refl, sym, ap, ◌∙◌}
use mathlib.Core.Bool.{Bool, true, false, not, false≢true}
use mathlib.Core.Logic.{◌⊎◌, inl, inr, ⊎_elim}
use Prim.Native.Nat.{ℕ, ◌<◌, ◌≤◌}
use native.Mathlib.Omega.{arith}
use lib.Dec.{eqb, ltb}
use borrow.Author.Tests.{eqb-true, eq-eqb, ne_eqb, ltb-true}
use Rattle.numbers.specs.Choice.{pick, both}
use Rattle.numbers.proofs.Choice.{both_true}
use Rattle.column_type.specs.Types.{known, widths, width_of, delta, zigzag}
use Rattle.column_type.proofs.Laws.{of_known, same, same_eq, unmarked}
use Rattle.coding.specs.Layout.{DeltaWidth, SplitWidth}
use Rattle.page_rules.specs.Page.{readable}
use Rattle.page_rules.specs.Widths.{read_width}
use Rattle.page_rules.proofs.Types.{Whole, whole_at, whole_split, bit_width}

-- a known type is read where its width is, and is Bit where it has one bit; delta has more than 16 bits, zigzag more than 8

abbrev told : ℕ → Bool
told t =
    both (same (readable t) (read_width (width_of t)))
    (both (same (eqb t 6) (eqb (width_of t) 1))
    (both (pick (delta t) (ltb 16 (width_of t)) true) (pick (zigzag t) (ltb 8 (width_of t)) true)))

all_told : (t : ℕ) → known t ≡ true → told t ≡ true
unfolding known widths width_of delta zigzag
all_told = of_known (λ (t w : ℕ). told t) widths refl tt

record Told (t : ℕ) : Type 0 where
  read : readable t ≡ read_width (width_of t)
  bit : eqb t 6 ≡ eqb (width_of t) 1
  of_delta_lem : delta t ≡ true → 16 < width_of t
  of_zigzag : zigzag t ≡ true → 8 < width_of t

-- what a test says where it is asked for
picked : (b : Bool) (k w : ℕ) → pick b (ltb k w) true ≡ true → b ≡ true → k < w
picked true k w e h = ltb-true k w e
picked false k w e h = absurd (false≢true h)

unknown_width : (t : ℕ) → known t ≡ false → width_of t ≡ 0
unfolding width_of
unknown_width t k = simp k

known_six : known 6 ≡ true
unfolding known
known_six = refl

-- and of a type that is not known, whose width is 0
tells : (t : ℕ) → Told t
tells t = go (known t) refl
  where
    go : (b : Bool) → known t ≡ b → Told t
    go true k =
        let p = both_true (same (readable t) (read_width (width_of t))) _ (all_told t k) in
        let q = both_true (same (eqb t 6) (eqb (width_of t) 1)) _ p.1 in
        let r = both_true (pick (delta t) (ltb 16 (width_of t)) true) _ q.1 in
        record {
          read = same_eq (readable t) (read_width (width_of t)) p.0;
          bit = same_eq (eqb t 6) (eqb (width_of t) 1) q.0;
          of_delta_lem = picked (delta t) 16 (width_of t) r.0;
          of_zigzag = picked (zigzag t) 8 (width_of t) r.1;
        }
    go false k =
        let none : width_of t ≡ 0 = unknown_width t k in
        let six : eqb t 6 ≡ false = ne_eqb t 6 (λ e. false≢true (sym k ∙ ap known e ∙ known_six)) in
        let m = unmarked t k in
        record {
          read = ap (λ (b : Bool). both b (not (eqb t 3))) k ∙ ap read_width (sym none);
          bit = six ∙ ap (λ (w : ℕ). eqb w 1) (sym none);
          of_delta_lem = λ d. absurd (false≢true (m.is_delta ∙ d));
          of_zigzag = λ z. absurd (false≢true (m.is_zigzag ∙ z));
        }

pub read_width_lem : (t w : ℕ) → w ≡ width_of t → read_width w ≡ readable t
read_width_lem t w e = ap read_width e ∙ sym (tells t).read

pub bit_type_lem : (t w : ℕ) → w ≡ width_of t → w ≡ 1 → t ≡ 6
bit_type_lem t w e one = eqb-true t 6 ((tells t).bit ∙ eq-eqb (width_of t) 1 (sym e ∙ one))

pub no_bit : (t w : ℕ) → w ≡ width_of t → (w ≡ 1 → ⊥) → t ≡ 6 → ⊥
no_bit t w e more six = more (e ∙ bit_width t six)

-- a mark that no type of so few bits has

few_bits : (b : Bool) (k w : ℕ) → (b ≡ true → k < w) → w ≤ k → false ≡ b
few_bits true k w h less = absurd (both_ways (h refl))
  where
    both_ways : k < w → ⊥
    both_ways l = omega arith
few_bits false k w h less = refl

pub no_delta : (t w : ℕ) → w ≡ width_of t → w ≤ 16 → false ≡ delta t
no_delta t w e less = few_bits (delta t) 16 (width_of t) (tells t).of_delta_lem (omega arith)

pub no_zigzag : (t w : ℕ) → w ≡ width_of t → w ≤ 8 → false ≡ zigzag t
no_zigzag t w e less = few_bits (zigzag t) 8 (width_of t) (tells t).of_zigzag (omega arith)

-- a width that is read, other than 1

pub bytes_width : (w : ℕ) → read_width w ≡ true → (w ≡ 1 → ⊥) → (w ≡ 8) ⊎ SplitWidth w
bytes_width w r more = go (eqb w 1) refl (eqb w 8) refl (eqb w 16) refl (eqb w 32) refl
  where
    go : (a : Bool) → eqb w 1 ≡ a → (b : Bool) → eqb w 8 ≡ b → (c : Bool) → eqb w 16 ≡ c → (d : Bool) → eqb w 32 ≡ d → (w ≡ 8) ⊎ SplitWidth w
    go true a b q c s d u = absurd (more (eqb-true w 1 a))
    go false a true q c s d u = inl (eqb-true w 8 q)
    go false a false q true s d u = inr (inl (eqb-true w 16 s))
    go false a false q false s true u = inr (inr (inl (eqb-true w 32 u)))
    go false a false q false s false u = inr (inr (inr (eqb-true w 64 (simp (a, q, s, u) at r))))

pub whole_width : (w : ℕ) → (w ≡ 8) ⊎ SplitWidth w → Whole w
whole_width w = ⊎_elim (λ e. whole_at w 1 e (inl refl) (omega arith) (omega arith)) (whole_split w)

pub read_most : (w : ℕ) → read_width w ≡ true → w ≤ 64
read_most w r = go (eqb w 1) refl
  where
    go : (a : Bool) → eqb w 1 ≡ a → w ≤ 64
    go true a = omega (arith, eqb-true w 1 a)
    go false a =
        let h = whole_width w (bytes_width w r (λ e. false≢true (sym a ∙ eq-eqb w 1 e))) in
        omega (arith, h.eights, h.most)

-- those of more than 8 bits, and of more than 16

pub split_width : (w : ℕ) → read_width w ≡ true → 8 < w → SplitWidth w
split_width w r h = ⊎_elim (λ e. absurd (less e)) (λ x. x) (bytes_width w r (λ e. omega arith))
  where
    less : w ≡ 8 → ⊥
    less e = omega arith

pub delta_width : (w : ℕ) → read_width w ≡ true → 16 < w → DeltaWidth w
delta_width w r h = ⊎_elim (λ e. absurd (less e)) (λ x. x) (split_width w r (omega arith))
  where
    less : w ≡ 16 → ⊥
    less e = omega arith
