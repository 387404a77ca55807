-- One word of the bytes taken into the wide register: by the register itself, or put on the words after it.
use mathlib.Core.Path.{◌≡◌, refl, sym, ap, ap₂, ◌∙◌}
use mathlib.Core.List.{List, [], ◌∷◌}
use Prim.Native.Nat.{ℕ, suc, ◌+◌, ◌-◌, ◌*◌, ◌%◌, ◌^◌, ◌≤◌, ◌<◌, min}
use native.Mathlib.Nat.{mod-eq_of_lt, min-eq_left, min-eq_right, le_refl, le_trans, le_of_lt, mul-le-mul_left, lt_of_lt_of_le, le_of_suc-le-suc}
use native.Mathlib.Omega.{arith}
use lib.Bits.{bit_xor, xor_comm, xor_shifted, xor_zero_r}
use lib.Dec.{T}
use lib.ListN.{length, get_or, drop, drop_of_length-le}
use lib.Pow.{low}
use Rattle.numbers.specs.Numbers.{little}
use Rattle.checksum.specs.Crc.{bits, fold}
use Rattle.checksum.specs.Wide.{joined, ending}
use Rattle.crc_register.proofs.Xor.{xor_assoc}
use Rattle.crc_register.proofs.Register.{bits_xor, bits_up}
use Rattle.crc_register.proofs.Shifts.{xors}
use Rattle.checksum.proofs.Fold.{fold_octets, fold_lt}
use Rattle.checksum.proofs.Spread.{put, put_is, room, spreads, inside, afters, same_later}

-- the shifts g are those of a multiple of the polynomial, and reach no further than n words
pub record Multiple (n : ℕ) (g : List (List ℕ)) : Type 0 where
  pub within : T (inside (8 * (8 * n)) g)
  pub same : bits (64 + 8 * (8 * n)) (2 ^ 63) ≡ afters (8 * (8 * n)) g (2 ^ 63)
  pub fits : (b c d e : ℕ) → T (room g (b ∷ c ∷ d ∷ e ∷ 0 ∷ []))

-- five words and a zero above them
zero_above : (a b c d e : ℕ) → joined (a ∷ b ∷ c ∷ d ∷ e ∷ 0 ∷ []) ≡ joined (a ∷ b ∷ c ∷ d ∷ e ∷ [])
unfolding joined
zero_above a b c d e = refl

module _ (s : List ℕ) (h : (j : ℕ) → get_or s j 0 < 256) where
  -- the first word of the register meets the next word of the bytes
  met : (a : ℕ) (ws : List ℕ) (w i : ℕ) → w ≡ little 8 s i → i + 8 ≤ length s
      → fold (bit_xor (bits 64 (bit_xor a w)) (joined ws)) (drop (i + 8) s) ≡ fold (joined (a ∷ ws)) (drop i s)
  unfolding joined
  met a ws w i e l =
      let u : ℕ = joined ws * 2 ^ 64 in
      sym (fold_octets s h 8 (bit_xor a u) i l
      ∙ ap (λ (y : ℕ). fold y (drop (i + 8) s))
      (ap (λ (y : ℕ). bits 64 (bit_xor (bit_xor a u) y)) (sym e)
      ∙ ap (bits 64) (xor_assoc a u w ∙ ap (bit_xor a) (xor_comm u w) ∙ sym (xor_assoc a w u))
      ∙ bits_xor 64 (bit_xor a w) u
      ∙ ap (bit_xor (bits 64 (bit_xor a w))) (bits_up 64 (joined ws))))

  -- numbers that come to the same after k bytes may stand for each other where k bytes follow
  later : (k x y r i : ℕ) → bits (8 * k) x ≡ bits (8 * k) y → i + k ≤ length s → fold (bit_xor x r) (drop i s) ≡ fold (bit_xor y r) (drop i s)
  later k x y r i e l =
      let t : ℕ = little k s i in
      let m : ℕ = 8 * k in
      fold_octets s h k (bit_xor x r) i l
      ∙ ap (λ (z : ℕ). fold z (drop (i + k) s))
      (ap (bits m) (xor_assoc x r t) ∙ bits_xor m x (bit_xor r t) ∙ ap (λ (z : ℕ). bit_xor z (bits m (bit_xor r t))) e
      ∙ sym (ap (bits m) (xor_assoc y r t) ∙ bits_xor m y (bit_xor r t)))
      ∙ sym (fold_octets s h k (bit_xor y r) i l)

  next_place : (left : ℕ) → 1 ≤ left → 8 * left ≤ length s → ending (left - 1) s ≡ drop (length s - 8 * left + 8) s
  unfolding ending
  next_place left g l =
      let e : length s - 8 * (left - 1) ≡ length s - 8 * left + 8 = omega arith in
      ap (λ (i : ℕ). drop i s) e

  -- a word through the register
  through : (a b c d e w left : ℕ) → w ≡ little 8 s (length s - 8 * left) → 1 ≤ left → 8 * left ≤ length s
      → fold (joined (bit_xor b (bits 64 (bit_xor a w)) ∷ c ∷ d ∷ e ∷ 0 ∷ [])) (ending (left - 1) s) ≡ fold (joined (a ∷ b ∷ c ∷ d ∷ e ∷ [])) (ending left s)
  unfolding ending joined
  through a b c d e w left q g l =
      let i : ℕ = length s - 8 * left in
      let x : ℕ = bits 64 (bit_xor a w) in
      let u : ℕ = joined (c ∷ d ∷ e ∷ 0 ∷ []) * 2 ^ 64 in
      ap₂ fold (ap (λ (y : ℕ). bit_xor y u) (xor_comm b x) ∙ xor_assoc x b u) (next_place left g l)
      ∙ met a (b ∷ c ∷ d ∷ e ∷ 0 ∷ []) w i q (omega arith)
      ∙ ap (λ (y : ℕ). fold y (ending left s)) (zero_above a b c d e)

  -- a word put on words after it
  pub put_on : (n : ℕ) (g : List (List ℕ)) → Multiple n g → (a b c d e w left : ℕ) → bit_xor a w < 2 ^ 64 → w ≡ little 8 s (length s - 8 * left)
      → n < left → 8 * left ≤ length s
      → fold (joined (put g (bit_xor a w) [] (b ∷ c ∷ d ∷ e ∷ 0 ∷ []))) (ending (left - 1) s) ≡ fold (joined (a ∷ b ∷ c ∷ d ∷ e ∷ [])) (ending left s)
  unfolding ending xors
  put_on n g m a b c d e w left x64 q k l =
      let i : ℕ = length s - 8 * left in
      let x : ℕ = bit_xor a w in
      let ws : List ℕ = b ∷ c ∷ d ∷ e ∷ 0 ∷ [] in
      ap₂ fold (put_is g x [] ws (m.fits b c d e) ∙ xor_comm (joined ws) (spreads g x)) (next_place left (omega arith) l)
      ∙ sym (later (8 * n) (bits 64 x) (spreads g x) (joined ws) (i + 8) (same_later (8 * (8 * n)) g m.within m.same x x64) (omega arith))
      ∙ met a ws w i q (omega arith)
      ∙ ap (λ (y : ℕ). fold y (ending left s)) (zero_above a b c d e)

  -- the same of the last n + 1 words
  of_last : (n words x y : ℕ) → n < words → fold x (ending (suc n - 1) s) ≡ fold y (ending (suc n) s)
      → fold x (ending (min words n) s) ≡ fold y (ending (min words (suc n)) s)
  of_last n words x y k e =
      let p : n ≡ suc n - 1 = omega arith in
      ap (λ (j : ℕ). fold x (ending j s)) (min-eq_right (le_of_lt k) ∙ p) ∙ e ∙ ap (λ (j : ℕ). fold y (ending j s)) (sym (min-eq_right k))

  pub put_last : (n : ℕ) (g : List (List ℕ)) → Multiple n g → (a b c d e w words : ℕ) → bit_xor a w < 2 ^ 64 → w ≡ little 8 s (length s - 8 * suc n)
      → n < words → 8 * words ≤ length s
      → fold (joined (put g (bit_xor a w) [] (b ∷ c ∷ d ∷ e ∷ 0 ∷ []))) (ending (min words n) s) ≡ fold (joined (a ∷ b ∷ c ∷ d ∷ e ∷ [])) (ending (min words (suc n)) s)
  put_last n g m a b c d e w words x64 q k l =
      of_last n words (joined (put g (bit_xor a w) [] (b ∷ c ∷ d ∷ e ∷ 0 ∷ []))) (joined (a ∷ b ∷ c ∷ d ∷ e ∷ [])) k
      (put_on n g m a b c d e w (suc n) x64 q (le_refl (suc n)) (le_trans (mul-le-mul_left 8 k) l))

  pub through_last : (a b c d e w r words : ℕ) → w ≡ little 8 s (length s - 8 * 1) → r ≡ bits 64 (bit_xor a w) → 0 < words → 8 * words ≤ length s
      → fold (joined (bit_xor b r ∷ c ∷ d ∷ e ∷ 0 ∷ [])) (ending (min words 0) s) ≡ fold (joined (a ∷ b ∷ c ∷ d ∷ e ∷ [])) (ending (min words 1) s)
  through_last a b c d e w r words q t k l =
      of_last 0 words (joined (bit_xor b r ∷ c ∷ d ∷ e ∷ 0 ∷ [])) (joined (a ∷ b ∷ c ∷ d ∷ e ∷ [])) k
      (ap (λ (y : ℕ). fold (joined (bit_xor b y ∷ c ∷ d ∷ e ∷ 0 ∷ [])) (ending 0 s)) t ∙ through a b c d e w 1 q (le_refl 1) (le_trans (mul-le-mul_left 8 k) l))

-- where no words are left, the first word of the register is the whole
pub settled : (s : List ℕ) → ((j : ℕ) → get_or s j 0 < 256) → (words x a b c d e : ℕ) → a < 2 ^ 64
    → fold (joined (a ∷ b ∷ c ∷ d ∷ e ∷ [])) (ending 0 s) ≡ fold (joined (x ∷ 0 ∷ 0 ∷ 0 ∷ 0 ∷ [])) (ending words s)
    → fold x (ending words s) ≡ fold 0xFFFFFFFF s → (a ≡ fold 0xFFFFFFFF s) × (a < 2 ^ 32)
unfolding joined ending fold
settled s h words x a b c d e ha all first =
    let n : ℕ = fold 0xFFFFFFFF s in
    let u : ℕ = joined (b ∷ c ∷ d ∷ e ∷ []) in
    let j : ℕ = joined (a ∷ b ∷ c ∷ d ∷ e ∷ []) in
    let past : length s ≤ length s - 8 * 0 = omega arith in
    let none : ending 0 s ≡ [] = drop_of_length-le s past in
    let whole : j ≡ n = sym (ap (fold j) none) ∙ all ∙ ap (λ (y : ℕ). fold y (ending words s)) (xor_zero_r x) ∙ first in
    let small : n < 2 ^ 32 = fold_lt s h 0xFFFFFFFF (omega arith) in
    let is : a ≡ n =
    sym (low u 64 ha) ∙ ap (λ (y : ℕ). y % 2 ^ 64) (sym (xor_comm a (u * 2 ^ 64) ∙ xor_shifted u 64 a ha) ∙ whole)
    ∙ mod-eq_of_lt (lt_of_lt_of_le small (omega arith)) in
    (is, rw is small)

pub least : (n words : ℕ) → words < suc n → min words n ≡ min words (suc n)
least n words h = min-eq_left (le_of_suc-le-suc h) ∙ sym (min-eq_left (le_of_lt h))
