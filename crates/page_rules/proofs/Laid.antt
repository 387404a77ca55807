-- A page's numbers before delta and zigzag: how many they are, and below what; and lists written over one another.
-- Assumes nothing.
use mathlib.Core.Path.{◌≡◌, refl, sym, ap, ◌∙◌, subst, subst⁻¹}
use mathlib.Core.List.{List, ◌++◌, map}
use mathlib.Core.Bool.{Bool, true, false}
use Prim.Native.Nat.{ℕ, ◌+◌, ◌*◌, ◌-◌, ◌/◌, ◌%◌, ◌^◌, ◌<◌, ◌≤◌}
use native.Mathlib.Nat.{mul_comm, mul_assoc, one-mul, mod-eq_of_lt}
use native.Mathlib.Omega.{arith}
use lib.Dec.{eqb, ltb}
use borrow.Author.Tests.{eqb-true, ltb-true, ltb-false, lt-ltb, le-ltb}
use lib.Pow.{pow-lt}
use lib.ListN.{length, take, drop, length-append, length-drop, length-map}
use lib.Seq.{take_at, drop_at, length-take-le}
use Rattle.planes.proofs.Words.{bytes_power}
use Rattle.column_type.specs.Types.{width_of, split, delta, zigzag}
use Rattle.coding.specs.Layout.{unplanes, unplain, unpacked, unzigzagged, largest}
use Rattle.numbers.specs.Numbers.{bytes_for}
use Rattle.numbers.specs.Rows.{over}
use Rattle.page_rules.specs.Page.{readable, size_of, chosen, laid, elements}
use Rattle.coding.specs.Inverses.{Below}
use Rattle.coding.proofs.Bits.{length_unpacked}
use Rattle.coding.proofs.Delta.{length_sums}
use Rattle.coding.proofs.Plain.{length_unplain}
use Rattle.coding.proofs.Planes.{length_unplanes}
use Rattle.coding.proofs.Strided.{below_unplanes, below_unplain}
use Rattle.page_rules.proofs.Types.{OfBytes, of_bytes, Whole, whole}

-- written over

pub take_over : (l d : List ℕ) (n : ℕ) → length l ≡ n → take n (over l d) ≡ l
take_over l d n e = take_at l (drop (length l) d) n e

pub over_over : (k l d : List ℕ) → length k ≡ length l → over k (over l d) ≡ over k d
over_over k l d e =
    ap (λ (t : List ℕ). k ++ t) (ap (λ (n : ℕ). drop n (over l d)) e ∙ drop_at l (drop (length l) d) (length l) refl ∙ ap (λ (n : ℕ). drop n d) (sym e))

-- words that are written over others from `start` on stand there, and all are as many as before
module _ (old xs : List ℕ) (start n : ℕ) (many : length xs ≡ n) (h : start + n ≤ length old) where
  abbrev left : List ℕ
  left = take start old ++ over xs (drop start old)

  front : length (take start old) ≡ start
  front = length-take-le start old (omega arith)

  pub chosen_left : chosen n left start ≡ xs
  chosen_left =
      ap (take n) (drop_at (take start old) (over xs (drop start old)) start front) ∙ take_over xs (drop start old) n many

  pub length_left : length left ≡ length old
  length_left =
      let a = length-append (take start old) (over xs (drop start old)) in
      let b = length-append xs (drop (length xs) (drop start old)) in
      let c = length-drop (length xs) (drop start old) in
      let d = length-drop start old in
      let f = front in
      omega arith

-- powers and sizes

pub one_up : (w : ℕ) → w < 64 → 1 * 2 ^ w % 2 ^ 64 ≡ 2 ^ w
one_up w l = ap (λ (x : ℕ). x % 2 ^ 64) (one-mul (2 ^ w)) ∙ mod-eq_of_lt (pow-lt {j = 64} l)

pub largest_below : (w : ℕ) → w < 64 → 2 ^ w - 1 ≡ largest w
unfolding largest
largest_below w l = rw (lt-ltb w 64 l)

pub largest_above : (w : ℕ) → 64 ≤ w → 2 ^ 64 - 1 ≡ largest w
unfolding largest
largest_above w l = rw (le-ltb w 64 l)

pub largest_is : (w : ℕ) → w ≤ 64 → largest w ≡ 2 ^ w - 1
largest_is w h = go (ltb w 64) refl
  where
    go : (b : Bool) → ltb w 64 ≡ b → largest w ≡ 2 ^ w - 1
    go true e = sym (largest_below w (ltb-true w 64 e))
    go false e =
        let l = ltb-false w 64 e in
        let s : 64 ≡ w = omega arith in
        sym (largest_above w l) ∙ ap (λ (v : ℕ). 2 ^ v - 1) s

pub whole_power : (w : ℕ) → Whole w → 256 ^ (w / 8) ≡ 2 ^ w
whole_power w h = bytes_power (w / 8) ∙ ap (λ (i : ℕ). 2 ^ i) (sym h.eights)

pub power_of : (t : ℕ) → OfBytes t → 256 ^ (width_of t / 8) ≡ 2 ^ width_of t
power_of t o = whole_power (width_of t) (whole t o)

pub whole_size : (w n : ℕ) → Whole w → bytes_for n w ≡ n * (w / 8)
whole_size w n h =
    let k : ℕ = w / 8 in
    let m : n * w ≡ 8 * (n * k) =
    ap (λ (v : ℕ). n * v) h.eights ∙ sym (mul_assoc n 8 k) ∙ ap (λ (i : ℕ). i * k) (mul_comm n 8) ∙ mul_assoc 8 n k in
    omega arith

pub size_of_lem : (t n : ℕ) → OfBytes t → size_of t n ≡ n * (width_of t / 8)
size_of_lem t n o = whole_size (width_of t) n (whole t o)

-- which numbers, by the type

pub laid_split : (t n : ℕ) (bs : List ℕ) → eqb t 6 ≡ false → split t ≡ true → laid t n bs ≡ unplanes (width_of t / 8) n bs
unfolding laid
laid_split t n bs b s = simp (b, s)

pub laid_plain : (t n : ℕ) (bs : List ℕ) → eqb t 6 ≡ false → split t ≡ false → laid t n bs ≡ unplain (width_of t / 8) n bs
unfolding laid
laid_plain t n bs b s = simp (b, s)

-- how many, and below what

module _ (t n : ℕ) (bs : List ℕ) (o : OfBytes t) (b : eqb t 6 ≡ false) (h : size_of t n ≤ length bs) where
  abbrev k : ℕ
  k = width_of t / 8

  room : k * n ≤ length bs
  room = subst (λ (m : ℕ). m ≤ length bs) (size_of_lem t n o ∙ mul_comm n k) h

  pub length_laid : length (laid t n bs) ≡ n
  length_laid = go (split t) refl
    where
      go : (s : Bool) → split t ≡ s → length (laid t n bs) ≡ n
      go true s = ap length (laid_split t n bs b s) ∙ length_unplanes k n bs room
      go false s = ap length (laid_plain t n bs b s) ∙ length_unplain k n bs

  pub below_laid : Below 256 bs → Below (2 ^ width_of t) (laid t n bs)
  below_laid g = subst (λ (m : ℕ). Below m (laid t n bs)) (power_of t o) (go (split t) refl)
    where
      go : (s : Bool) → split t ≡ s → Below (256 ^ k) (laid t n bs)
      go true s = subst⁻¹ (Below (256 ^ k)) (laid_split t n bs b s) (below_unplanes k n bs room g)
      go false s = subst⁻¹ (Below (256 ^ k)) (laid_plain t n bs b s) (below_unplain k n bs g)

-- the elements, by the type

pub elements_bit : (t n : ℕ) (bs : List ℕ) → t ≡ 6 → elements t n bs ≡ unpacked n 0 bs
unfolding elements laid delta zigzag
elements_bit t n bs e = ap (λ (u : ℕ). elements u n bs) e ∙ at_six n bs
  where
    at_six : (n : ℕ) (bs : List ℕ) → elements 6 n bs ≡ unpacked n 0 bs
    at_six n bs = refl

pub elements_delta : (t n : ℕ) (bs : List ℕ) → delta t ≡ true → elements t n bs ≡ Rattle.coding.specs.Layout.sums (width_of t) 0 (laid t n bs)
unfolding elements
elements_delta t n bs d = simp d

pub elements_zigzag : (t n : ℕ) (bs : List ℕ) → delta t ≡ false → zigzag t ≡ true → elements t n bs ≡ map (Rattle.coding.specs.Layout.unzigzagged (width_of t)) (laid t n bs)
unfolding elements
elements_zigzag t n bs d z = simp (d, z)

pub elements_laid : (t n : ℕ) (bs : List ℕ) → delta t ≡ false → zigzag t ≡ false → elements t n bs ≡ laid t n bs
unfolding elements
elements_laid t n bs d z = simp (d, z)

-- a page that is long enough has as many elements as are asked for
pub length_elements : (t n : ℕ) (bs : List ℕ) → readable t ≡ true → size_of t n ≤ length bs → length (elements t n bs) ≡ n
length_elements t n bs r h = by (eqb t 6) refl
  where
    of_whole_bytes : OfBytes t → eqb t 6 ≡ false → (d z : Bool) → delta t ≡ d → zigzag t ≡ z → length (elements t n bs) ≡ n
    of_whole_bytes o b true z p q = ap length (elements_delta t n bs p) ∙ length_sums (width_of t) 0 (laid t n bs) ∙ length_laid t n bs o b h
    of_whole_bytes o b false true p q = ap length (elements_zigzag t n bs p q) ∙ length-map (laid t n bs) (unzigzagged (width_of t)) ∙ length_laid t n bs o b h
    of_whole_bytes o b false false p q = ap length (elements_laid t n bs p q) ∙ length_laid t n bs o b h

    by : (b : Bool) → eqb t 6 ≡ b → length (elements t n bs) ≡ n
    by true b = ap length (elements_bit t n bs (eqb-true t 6 b)) ∙ length_unpacked n 0 bs
    by false b = of_whole_bytes (of_bytes t r b) b (delta t) (zigzag t) refl refl
