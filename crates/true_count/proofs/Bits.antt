-- Ones of the numbers that bytes spell, and the true elements among their bits.
-- Assumes nothing.
use mathlib.Core.Path.{◌≡◌, refl, sym, ap, ap₂, ◌∙◌, subst}
use mathlib.Core.Bool.{Bool, true, false}
use mathlib.Core.List.{List, [], ◌∷◌, ◌++◌}
use Prim.Native.Nat.{ℕ, zero, suc, ◌+◌, ◌*◌, ◌-◌, ◌/◌, ◌%◌, ◌^◌, ◌<◌, ◌≤◌}
use native.Mathlib.Nat.{add_comm, div-one}
use native.Mathlib.Numerals.{add-one}
use native.Mathlib.Omega.{arith}
use lib.Count.{ones, ones_step, ones_cat}
use lib.Dec.{leb, eqb}
use lib.ListN.{length, take, drop, get_or, length-drop}
use lib.Seq.{length-take-le}
use lib.Pow.{pow_mono, pow-add, shr_lt, shr-shr}
use borrow.Author.Tests.{leb-true, leb-false}
use Rattle.numbers.specs.Choice.{pick}
use Rattle.numbers.specs.Numbers.{little, Little}
use Rattle.coding.specs.Layout.{bit_at, unpacked, unplain}
use Rattle.coding.proofs.Bits.{unpacked_more}
use Rattle.coding.proofs.Plain.{little_drop, unplain_take}
use Rattle.true_count.specs.True.{trues}

-- each is a byte
abbrev pub Bytes : List ℕ → Type 0
Bytes s = (i : ℕ) → get_or s i 0 < 256

pub ones_none : ones 0 ≡ 0
unfolding ones
ones_none = refl

-- numbers in bytes

-- a number in the first bytes
pub little_front : (k m : ℕ) (s : List ℕ) → k ≤ m → little k (take m s) 0 ≡ little k s 0
unfolding unplain
little_front k m s h = ap (λ (l : List ℕ). get_or l 0 0) (unplain_take k 1 m s (omega arith))

-- a number that was read from a part that is as long
pub part_read : (k at r : ℕ) (s : List ℕ) → at + k ≤ length s → Little k (take (at + k - at) (drop at s)) 0 r → r ≡ little k s at
part_read k at r s h l =
    let long = length-take-le (at + k - at) (drop at s) (omega (arith, length-drop at s)) in
    let same : at + 0 ≡ at = omega arith in
    l.there (omega arith) ∙ little_front k (at + k - at) (drop at s) (omega arith) ∙ little_drop k 0 at s ∙ ap (little k s) same

module _ (s : List ℕ) where
  module _ (bytes : Bytes s) where
    ones_byte : (k at : ℕ) → ones (little (suc k) s at) ≡ ones (get_or s at 0) + ones (little k s (at + 1))
    unfolding little
    ones_byte k at =
        let e : little (suc k) s at ≡ little k s (at + 1) * 2 ^ 8 + get_or s at 0 = omega arith in
        ap ones e ∙ ones_cat 8 (little k s (at + 1)) (get_or s at 0) (bytes at) ∙ add_comm (ones (little k s (at + 1))) (ones (get_or s at 0))

    -- the bytes of one number, then those of another behind it
    pub ones_more : (m k at : ℕ) → ones (little (m + k) s at) ≡ ones (little m s at) + ones (little k s (at + m))
    unfolding little
    ones_more zero k at =
        let e : 0 + k ≡ k = omega arith in
        let f : at + 0 ≡ at = omega arith in
        rw (e, f, ones_none) (omega arith)
    ones_more (suc m) k at =
        let e : suc m + k ≡ suc (m + k) = omega arith in
        let f : at + suc m ≡ at + 1 + m = omega arith in
        let g = ones_byte (m + k) at in
        let h = ones_byte m at in
        let i = ones_more m k (at + 1) in
        rw (e, f) (omega arith)

    -- the ones of m bytes from a place on, and of the word that k bytes behind them make
    pub counted_more : (from m k at n total word count : ℕ) → at ≡ from + m → n ≡ m + k → total ≡ ones (little m s from) → word ≡ little k s at → count ≡ ones word
        → total + count ≡ ones (little n s from)
    counted_more from m k at n total word count a e t w c =
        ap₂ (λ (x y : ℕ). x + y) t (c ∙ ap ones w ∙ ap (λ (j : ℕ). ones (little k s j)) a)
        ∙ sym (ones_more m k from)
        ∙ ap (λ (j : ℕ). ones (little j s from)) (sym e)

    little_below : (k at : ℕ) → little k s at < 2 ^ (8 * k)
    unfolding little
    little_below zero at = omega arith
    little_below (suc k) at =
        let p : 2 ^ (8 * suc k) ≡ 2 ^ 8 * 2 ^ (8 * k) = ap (λ (n : ℕ). 2 ^ n) (omega arith) ∙ pow-add 2 8 (8 * k) in
        let l = little_below k (at + 1) in
        let b = bytes at in
        rw p (omega arith)

    -- a byte more still fits a word
    pub little_small : (k at : ℕ) → k < 7 → little k s at < 2 ^ 48
    little_small k at h =
        let l = little_below k at in
        let m : 2 ^ (8 * k) ≤ 2 ^ 48 = pow_mono {i = 8 * k} {j = 48} (omega arith) in
        omega arith

  -- a number with one byte more in front
  pub little_down : (n i : ℕ) → 0 < i → i ≤ n → little (n - (i - 1)) s (i - 1) ≡ little (n - i) s i * 256 + get_or s (i - 1) 0
  unfolding little
  little_down n i h l =
      let k : n - (i - 1) ≡ suc (n - i) = omega arith in
      let a : i - 1 + 1 ≡ i = omega arith in
      ap (λ (m : ℕ). little m s (i - 1)) k ∙ ap (λ (j : ℕ). get_or s (i - 1) 0 + 256 * little (n - i) s j) a ∙ omega arith

-- bits

-- an element of one bit is true where it is 1
bit_true : (x : ℕ) → x < 2 → pick (eqb x 1) 1 0 ≡ x
bit_true zero h = refl
bit_true (suc zero) h = refl
bit_true (suc (suc x)) h = absurd (omega arith)

trues_append : (xs ys : List ℕ) → trues (xs ++ ys) ≡ trues xs + trues ys
unfolding trues
trues_append [] ys = omega arith
trues_append (x ∷ xs) ys =
    let e = trues_append xs ys in
    omega arith

module _ (bs : List ℕ) where
  -- bits that are those of a number
  trues_bits : (r i b : ℕ) → ((j : ℕ) → j < r → bit_at bs (i + j) ≡ b / 2 ^ j % 2) → b < 2 ^ r → trues (unpacked r i bs) ≡ ones b
  unfolding trues unpacked
  trues_bits zero i b same h =
      let z : b ≡ 0 = omega arith in
      sym (ap ones z ∙ ones_none)
  trues_bits (suc r) i b same h =
      let first : bit_at bs i ≡ b % 2 =
      ap (bit_at bs) (omega arith) ∙ same 0 (omega arith) ∙ ap (λ (x : ℕ). x % 2) (div-one b) in
      let small : b / 2 < 2 ^ r = shr_lt r 1 (subst (λ (x : ℕ). b < 2 ^ x) (sym (add-one r)) h) in
      let rest : trues (unpacked r (i + 1) bs) ≡ ones (b / 2) =
      trues_bits r (i + 1) (b / 2) (λ j l.
      ap (bit_at bs) (omega arith) ∙ same (1 + j) (omega arith) ∙ ap (λ (x : ℕ). x % 2) (sym (shr-shr b 1 j))) small in
      ap₂ (λ (x y : ℕ). pick (eqb x 1) 1 0 + y) first rest
      ∙ ap (λ (x : ℕ). x + ones (b / 2)) (bit_true (b % 2) (omega arith))
      ∙ sym (ones_step b)

  byte_bits : (at j : ℕ) → j < 8 → bit_at bs (8 * at + j) ≡ get_or bs at 0 / 2 ^ j % 2
  byte_bits at j h =
      let e : (8 * at + j) / 8 ≡ at = omega arith in
      let f : (8 * at + j) % 8 ≡ j = omega arith in
      rw (e, f)

  module _ (bytes : Bytes bs) where
    -- the n bits from byte `at` on, which fill m bytes but for unused bits that are zero
    pub trues_bytes : (m n at : ℕ) → n ≤ 8 * m → 8 * m < n + 8 → ((n % 8 ≡ 0 → ⊥) → get_or bs (at + n / 8) 0 < 2 ^ (n % 8))
        → trues (unpacked n (8 * at) bs) ≡ ones (little m bs at)
    unfolding trues unpacked little
    trues_bytes zero n at h l clear =
        let z : n ≡ 0 = omega arith in
        rw (z, ones_none)
    trues_bytes (suc m) n at h l clear = by (leb 8 n) refl (trues_bytes m (n - 8) (at + 1))
      where
        by : (b : Bool) → leb 8 n ≡ b
            → (n - 8 ≤ 8 * m → 8 * m < n - 8 + 8 → (((n - 8) % 8 ≡ 0 → ⊥) → get_or bs (at + 1 + (n - 8) / 8) 0 < 2 ^ ((n - 8) % 8))
            → trues (unpacked (n - 8) (8 * (at + 1)) bs) ≡ ones (little m bs (at + 1)))
            → trues (unpacked n (8 * at) bs) ≡ ones (little (suc m) bs at)
        by true e rest =
            let g : 8 ≤ n = leb-true 8 n e in
            let n8 : n ≡ 8 + (n - 8) = omega arith in
            let a8 : 8 * at + 8 ≡ 8 * (at + 1) = omega arith in
            let m8 : (n - 8) % 8 ≡ n % 8 = omega arith in
            let p8 : at + 1 + (n - 8) / 8 ≡ at + n / 8 = omega arith in
            let first : trues (unpacked 8 (8 * at) bs) ≡ ones (get_or bs at 0) = trues_bits 8 (8 * at) (get_or bs at 0) (byte_bits at) (bytes at) in
            let second : trues (unpacked (n - 8) (8 * at + 8) bs) ≡ ones (little m bs (at + 1)) = rw a8 (rest (omega arith) (omega arith) (rw (m8, p8) clear)) in
            ap (λ (k : ℕ). trues (unpacked k (8 * at) bs)) n8
            ∙ ap trues (unpacked_more 8 (n - 8) (8 * at) bs)
            ∙ trues_append (unpacked 8 (8 * at) bs) (unpacked (n - 8) (8 * at + 8) bs)
            ∙ ap₂ (λ (x y : ℕ). x + y) first second
            ∙ sym (ones_byte bs bytes m at)
        by false e rest =
            let g : n < 8 = leb-false 8 n e in
            let m0 : m ≡ 0 = omega arith in
            let r : n % 8 ≡ n = omega arith in
            let q : at + n / 8 ≡ at = omega arith in
            let small : get_or bs at 0 < 2 ^ n = rw (r, q) at (clear (omega arith)) in
            trues_bits n (8 * at) (get_or bs at 0) (λ j h. byte_bits at j (omega arith)) small
            ∙ sym (ap (λ (k : ℕ). ones (little (suc k) bs at)) m0 ∙ ones_byte bs bytes 0 at ∙ ap (λ (x : ℕ). ones (get_or bs at 0) + x) ones_none ∙ omega arith)
