-- A run of bytes goes through the register as one number.
use mathlib.Core.Path.{◌≡◌, sym, ap, ap₂, ◌∙◌}
use mathlib.Core.List.{List, [], ◌∷◌}
use Prim.Native.Nat.{ℕ, zero, suc, ◌+◌, ◌*◌, ◌^◌, ◌≤◌, ◌<◌}
use native.Mathlib.Nat.{mul_comm, add_comm, add-zero}
use native.Mathlib.Numerals.{add-one}
use native.Mathlib.Omega.{arith}
use lib.Bits.{bit_xor, xor_comm, xor_zero_r, xor_shifted, xor_lt}
use lib.ListN.{length, get_or, drop}
use lib.Seq.{drop-cons}
use Rattle.numbers.specs.Numbers.{little}
use Rattle.checksum.specs.Crc.{bits, byte, fold}
use Rattle.crc_register.proofs.Register.{bits_xor, bits_add, bits_up, bits_lt}
use Rattle.crc_register.proofs.Xor.{xor_assoc}

-- a byte, and above it the number l of the bytes after it
byte_under : (c b l : ℕ) → b < 256 → bits 8 (bit_xor c (b + 256 * l)) ≡ bit_xor (byte c b) l
unfolding byte
byte_under c b l h =
    ap (λ (x : ℕ). bits 8 (bit_xor c x)) (add_comm b (256 * l) ∙ ap (λ (x : ℕ). x + b) (mul_comm 256 l) ∙ sym (xor_shifted l 8 b h) ∙ xor_comm (l * 256) b)
    ∙ ap (bits 8) (sym (xor_assoc c b (l * 256)))
    ∙ bits_xor 8 (bit_xor c b) (l * 256)
    ∙ ap (bit_xor (bits 8 (bit_xor c b))) (bits_up 8 l)

pub fold_one : (s : List ℕ) (c i : ℕ) → i < length s → fold c (drop i s) ≡ fold (byte c (get_or s i 0)) (drop (i + 1) s)
unfolding fold
fold_one s c i l = rw (add-one, drop-cons s i 0)

-- k bytes go through the register as one number
pub fold_octets : (s : List ℕ) → ((j : ℕ) → get_or s j 0 < 256) → (k c i : ℕ) → i + k ≤ length s
    → fold c (drop i s) ≡ fold (bits (8 * k) (bit_xor c (little k s i))) (drop (i + k) s)
unfolding bits little
fold_octets s h zero c i l = ap₂ (λ (x y : ℕ). fold x (drop y s)) (sym (xor_zero_r c)) (sym (add-zero i))
fold_octets s h (suc k) c i l =
    let e : i + 1 + k ≡ i + suc k = omega arith in
    let n : 8 * suc k ≡ 8 + 8 * k = omega arith in
    let y : ℕ = bit_xor c (little (suc k) s i) in
    fold_one s c i (omega arith)
    ∙ fold_octets s h k (byte c (get_or s i 0)) (i + 1) (omega arith)
    ∙ ap₂ (λ (x j : ℕ). fold (bits (8 * k) x) (drop j s)) (sym (byte_under c (get_or s i 0) (little k s (i + 1)) (h i))) e
    ∙ ap (λ (x : ℕ). fold x (drop (i + suc k) s)) (sym (ap (λ (j : ℕ). bits j y) n ∙ bits_add 8 (8 * k) y))

pub fold_lt : (s : List ℕ) → ((j : ℕ) → get_or s j 0 < 256) → (c : ℕ) → c < 2 ^ 32 → fold c s < 2 ^ 32
unfolding fold byte
fold_lt [] h c l = l
fold_lt (b ∷ bs) h c l = fold_lt bs (λ j. h (suc j)) (bits 8 (bit_xor c b)) (bits_lt 8 (bit_xor c b) (xor_lt 32 c b l (omega (arith, h 0))))
