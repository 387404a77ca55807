-- The shift register of the CRC is linear: what it makes of an exclusive or is the exclusive or of what it makes of each.
-- And a number that stands above some bits comes down by them unchanged.
use mathlib.Core.Path.{◌≡◌, refl, sym, ap, ap₂, ◌∙◌}
use mathlib.Core.Bool.{Bool, true, false}
use Prim.Native.Nat.{ℕ, zero, suc, ◌+◌, ◌*◌, ◌/◌, ◌%◌, ◌^◌, ◌<◌}
use native.Mathlib.Nat.{add_comm, zero-add, suc-add, lt_of_le_of_lt}
use native.Mathlib.Omega.{arith}
use lib.Bits.{bit_xor, xor_comm, xor_lt, shifted_half, shifted_even}
use lib.Dec.{eqb}
use lib.Pow.{shr_le}
use Rattle.numbers.specs.Choice.{pick}
use Rattle.crc_register.specs.Register.{shifted, bits}
use Rattle.crc_register.proofs.Xor.{digit, mod_two, xor_half, xor_low, xor_assoc, xor_twice}

-- one bit, whatever the polynomial p: u and v are the halves, x and y the bits that fall out
linear : (p u v x y : ℕ) → x < 2 → y < 2
    → pick (eqb (bit_xor x y) 1) (bit_xor (bit_xor u v) p) (bit_xor u v)
    ≡ bit_xor (pick (eqb x 1) (bit_xor u p) u) (pick (eqb y 1) (bit_xor v p) v)
linear p u v x y hx hy =
    digit (λ (x : ℕ). pick (eqb (bit_xor x y) 1) (bit_xor (bit_xor u v) p) (bit_xor u v) ≡ bit_xor (pick (eqb x 1) (bit_xor u p) u) (pick (eqb y 1) (bit_xor v p) v))
    (digit (λ (y : ℕ). pick (eqb (bit_xor 0 y) 1) (bit_xor (bit_xor u v) p) (bit_xor u v) ≡ bit_xor u (pick (eqb y 1) (bit_xor v p) v)) refl (xor_assoc u v p) y hy)
    (digit (λ (y : ℕ). pick (eqb (bit_xor 1 y) 1) (bit_xor (bit_xor u v) p) (bit_xor u v) ≡ bit_xor (bit_xor u p) (pick (eqb y 1) (bit_xor v p) v))
    (xor_assoc u v p ∙ ap (bit_xor u) (xor_comm v p) ∙ sym (xor_assoc u p v))
    (sym (xor_assoc u p (bit_xor v p) ∙ ap (bit_xor u) (ap (bit_xor p) (xor_comm v p) ∙ xor_twice p v)))
    y
    hy)
    x
    hx

shifted_xor : (a b : ℕ) → shifted (bit_xor a b) ≡ bit_xor (shifted a) (shifted b)
unfolding shifted
shifted_xor a b =
    ap₂ (λ (x y : ℕ). pick (eqb x 1) (bit_xor y 0xEDB88320) y) (xor_low a b) (xor_half a b)
    ∙ linear 0xEDB88320 (a / 2) (b / 2) (a % 2) (b % 2) (mod_two a) (mod_two b)

pub bits_xor : (k a b : ℕ) → bits k (bit_xor a b) ≡ bit_xor (bits k a) (bits k b)
unfolding bits
bits_xor zero a b = refl
bits_xor (suc k) a b = ap (bits k) (shifted_xor a b) ∙ bits_xor k (shifted a) (shifted b)

pub bits_add : (j k c : ℕ) → bits (j + k) c ≡ bits k (bits j c)
unfolding bits
bits_add zero k c = ap (λ (n : ℕ). bits n c) (zero-add k)
bits_add (suc j) k c = ap (λ (n : ℕ). bits n c) (suc-add j k) ∙ bits_add j k (shifted c)

pub bits_swap : (j k c : ℕ) → bits j (bits k c) ≡ bits k (bits j c)
bits_swap j k c = sym (bits_add k j c) ∙ ap (λ (n : ℕ). bits n c) (add_comm k j) ∙ bits_add j k c

pub bits_zero : (k : ℕ) → bits k 0 ≡ 0
unfolding bits shifted
bits_zero zero = refl
bits_zero (suc k) = bits_zero k

-- what stands k bits up comes down by k bits, and meets no one on the way
shifted_up : (a k : ℕ) → shifted (a * 2 ^ suc k) ≡ a * 2 ^ k
unfolding shifted
shifted_up a k =
    ap₂ (λ (x y : ℕ). pick (eqb x 1) (bit_xor y 0xEDB88320) y) (shifted_even a k) (shifted_half a k)

pub bits_up : (k a : ℕ) → bits k (a * 2 ^ k) ≡ a
unfolding bits
bits_up zero a = omega arith
bits_up (suc k) a = ap (bits k) (shifted_up a k) ∙ bits_up k a

-- a register of 32 bits keeps to them
pick_lt : (n : ℕ) (t : Bool) (x y : ℕ) → x < n → y < n → pick t x y < n
pick_lt n true x y hx hy = hx
pick_lt n false x y hx hy = hy

pub bits_lt : (k c : ℕ) → c < 2 ^ 32 → bits k c < 2 ^ 32
unfolding bits shifted
bits_lt zero c h = h
bits_lt (suc k) c h =
    let d : c / 2 < 2 ^ 32 = lt_of_le_of_lt (shr_le c 1) h in
    bits_lt k (shifted c) (pick_lt (2 ^ 32) (eqb (c % 2) 1) (bit_xor (c / 2) 0xEDB88320) (c / 2) (xor_lt 32 (c / 2) 0xEDB88320 d (omega arith)) d)
