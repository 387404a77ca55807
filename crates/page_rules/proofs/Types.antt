-- What the types whose pages are read have in common, by one computed test.
-- Assumes nothing.
use mathlib.Core.Path.{◌≡◌, refl, sym, ap, ◌∙◌, subst}
use mathlib.Core.Bool.{Bool, true, false, not, false≢true}
use mathlib.Core.Logic.{◌⊎◌, inl, inr, ⊎_elim}
use Prim.Native.Nat.{ℕ, ◌+◌, ◌*◌, ◌/◌, ◌≤◌}
use native.Mathlib.Nat.{mul-one}
use native.Mathlib.Omega.{arith}
use lib.Dec.{eqb}
use borrow.Author.Tests.{eqb-true, not-true}
use Rattle.numbers.specs.Choice.{pick, both}
use Rattle.numbers.proofs.Choice.{both_true}
use Rattle.column_type.specs.Types.{known, widths, width_of, split, delta, zigzag}
use Rattle.column_type.proofs.Laws.{of_known}
use Rattle.coding.specs.Layout.{DeltaWidth, SplitWidth, WholeBytes}
use Rattle.page_rules.specs.Page.{readable, size_of}

-- tests of a width

abbrev either : Bool → Bool → Bool
either true b = true
either false b = b

either_parts : (a b : Bool) → either a b ≡ true → (a ≡ true) ⊎ (b ≡ true)
either_parts true b e = inl refl
either_parts false b e = inr e

⊎_map : {A B C D : Type 0} → (A → C) → (B → D) → A ⊎ B → C ⊎ D
⊎_map f g = ⊎_elim (λ a. inl (f a)) (λ b. inr (g b))

abbrev delta_width : ℕ → Bool
delta_width w = either (eqb w 32) (eqb w 64)

is_delta_width : (w : ℕ) → delta_width w ≡ true → DeltaWidth w
is_delta_width w e = ⊎_map (eqb-true w 32) (eqb-true w 64) (either_parts (eqb w 32) (eqb w 64) e)

abbrev split_width : ℕ → Bool
split_width w = either (eqb w 16) (delta_width w)

is_split_width : (w : ℕ) → split_width w ≡ true → SplitWidth w
is_split_width w e = ⊎_map (eqb-true w 16) (is_delta_width w) (either_parts (eqb w 16) (delta_width w) e)

-- of a type other than Switch and Bit: where it is split, 16, 32 or 64 bits, with delta 32 or 64; where it is not, 8 bits too, and neither delta nor zigzag
sound : ℕ → Bool
sound t =
    pick (eqb t 3) true
    (pick (eqb t 6) true
    (pick (split t) (both (split_width (width_of t)) (pick (delta t) (delta_width (width_of t)) true))
    (both (either (eqb (width_of t) 8) (split_width (width_of t))) (both (not (delta t)) (not (zigzag t))))))

all_sound : (t : ℕ) → known t ≡ true → sound t ≡ true
unfolding sound known widths width_of split delta zigzag
all_sound = of_known (λ (t w : ℕ). sound t) widths refl tt

pub record OfBytes (t : ℕ) : Type 0 where
  pub width : (width_of t ≡ 8) ⊎ SplitWidth (width_of t)
  pub of_split_lem : split t ≡ true → SplitWidth (width_of t)
  pub of_delta_lem : delta t ≡ true → DeltaWidth (width_of t)
  pub of_plain : split t ≡ false → (delta t ≡ false) × (zigzag t ≡ false)

pub readable_known : (t : ℕ) → readable t ≡ true → known t ≡ true
readable_known t r = (both_true (known t) (not (eqb t 3)) r).0

never : {A : Type 0} {b : Bool} → b ≡ false → b ≡ true → A
never f t = absurd (false≢true (sym f ∙ t))

pub of_bytes : (t : ℕ) → readable t ≡ true → eqb t 6 ≡ false → OfBytes t
unfolding sound
of_bytes t r six = go (split t) refl (delta t) refl
  where
    w : ℕ
    w = width_of t

    three : eqb t 3 ≡ false
    three = not-true (eqb t 3) (both_true (known t) (not (eqb t 3)) r).1

    go : (s : Bool) → split t ≡ s → (d : Bool) → delta t ≡ d → OfBytes t
    go true s true d =
        let p = both_true (split_width (width_of t)) (delta_width (width_of t)) (simp (three, six, s, d) at (all_sound t (readable_known t r))) in
        let a = is_split_width (width_of t) p.0 in
        record { width = inr a; of_split_lem = λ _. a; of_delta_lem = λ _. is_delta_width (width_of t) p.1; of_plain = λ e. never e s }
    go true s false d =
        let p = both_true (split_width (width_of t)) true (simp (three, six, s, d) at (all_sound t (readable_known t r))) in
        let a = is_split_width (width_of t) p.0 in
        record { width = inr a; of_split_lem = λ _. a; of_delta_lem = λ e. never d e; of_plain = λ e. never e s }
    go false s d q =
        let p = both_true (either (eqb (width_of t) 8) (split_width (width_of t))) (both (not (delta t)) (not (zigzag t))) (simp (three, six, s) at (all_sound t (readable_known t r))) in
        let n = both_true (not (delta t)) (not (zigzag t)) p.1 in
        let no_delta = not-true (delta t) n.0 in
        record {
          width = ⊎_map (eqb-true (width_of t) 8) (is_split_width (width_of t)) (either_parts (eqb (width_of t) 8) (split_width (width_of t)) p.0);
          of_split_lem = λ e. never s e;
          of_delta_lem = λ e. never no_delta e;
          of_plain = λ _. (no_delta, not-true (zigzag t) n.1);
        }

-- zigzag is split
pub of_zigzag : (t : ℕ) → OfBytes t → zigzag t ≡ true → SplitWidth (width_of t)
of_zigzag t o z = go (split t) refl
  where
    go : (s : Bool) → split t ≡ s → SplitWidth (width_of t)
    go true s = o.of_split_lem s
    go false s = never (o.of_plain s).1 z

-- a width of whole bytes, at each of the four

pub record Whole (w : ℕ) : Type 0 where
  pub eights : w ≡ 8 * (w / 8)
  pub some : 1 ≤ w / 8
  pub most : w / 8 ≤ 8
  pub bytes : WholeBytes (w / 8)

pub whole_at : (w k : ℕ) → w ≡ 8 * k → WholeBytes k → 1 ≤ k → k ≤ 8 → Whole w
whole_at w k e b l m =
    let d : w / 8 ≡ k = omega arith in
    record { eights = omega arith; some = omega arith; most = omega arith; bytes = subst WholeBytes (sym d) b }

pub whole_split : (w : ℕ) → SplitWidth w → Whole w
whole_split w =
    ⊎_elim (λ e. whole_at w 2 e (inr (inl refl)) (omega arith) (omega arith))
    (⊎_elim (λ e. whole_at w 4 e (inr (inr (inl refl))) (omega arith) (omega arith)) (λ e. whole_at w 8 e (inr (inr (inr refl))) (omega arith) (omega arith)))

pub whole : (t : ℕ) → OfBytes t → Whole (width_of t)
whole t o = ⊎_elim (λ e. whole_at (width_of t) 1 e (inl refl) (omega arith) (omega arith)) (whole_split (width_of t)) o.width

-- the widths of split elements are at least 1 and at most 64

pub width_pos : {w : ℕ} → SplitWidth w → 1 ≤ w
width_pos = ⊎_elim (λ e. omega arith) (⊎_elim (λ e. omega arith) (λ e. omega arith))

pub split_most : {w : ℕ} → SplitWidth w → w ≤ 64
split_most = ⊎_elim (λ e. omega arith) (⊎_elim (λ e. omega arith) (λ e. omega arith))

-- what is left when the other widths are ruled out
pub sixty_four_left : (w : ℕ) → SplitWidth w → (w ≡ 16 → ⊥) → (w ≡ 32 → ⊥) → w ≡ 64
sixty_four_left w z a b = ⊎_elim (λ e. absurd (a e)) (⊎_elim (λ e. absurd (b e)) (λ e. e)) z

-- Bit

pub bit_width : (t : ℕ) → t ≡ 6 → width_of t ≡ 1
unfolding width_of widths known
bit_width t e = ap width_of e

pub bit_size : (t n : ℕ) → t ≡ 6 → size_of t n ≡ (n + 7) / 8
bit_size t n e = ap (λ (v : ℕ). (n * v + 7) / 8) (bit_width t e) ∙ ap (λ (m : ℕ). (m + 7) / 8) (mul-one n)

-- no type that is read has more than 64 bits
pub width_most : (t : ℕ) → readable t ≡ true → width_of t ≤ 64
width_most t r = go (eqb t 6) refl
  where
    go : (b : Bool) → eqb t 6 ≡ b → width_of t ≤ 64
    go true e = omega (arith, bit_width t (eqb-true t 6 e))
    go false e =
        let h = whole t (of_bytes t r e) in
        omega arith
