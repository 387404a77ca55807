-- The fewest decimal digits that hold a number are its digits without leading zeros.
use Prim.Native.Nat.{ℕ, zero, suc, ◌+◌, ◌-◌, ◌/◌, ◌%◌, ◌^◌, ◌≤◌, ◌<◌}
use mathlib.Core.Path.{◌≡◌}
use native.Mathlib.Nat.{one-le-pow}
use native.Mathlib.Omega.{arith}
use borrow.Author.Tests.{lt-ltb, le-ltb}
use Rattle.io.specs.Digits.{hex_digit_ascii, last_digits, IsDigitCount}
use Rattle.decimals.specs.Decimal.{decimal_by, decimal}

glyph_decimal : (d : ℕ) → d < 10 → hex_digit_ascii d ≡ 48 + d
glyph_decimal d h = rw (lt-ltb d 10 h)

-- a number of more than one digit is at least the power of ten that has as many
least_power : (n k : ℕ) → IsDigitCount 10 1 n (suc (suc k)) → 10 ^ suc k ≤ n
least_power n k f =
    let less : suc (suc k) - 1 ≡ suc k = omega arith in
    rw less at (f.2 (omega arith))

-- `steps` divisions are enough for a number of at most steps + 1 digits
digits_by : (k steps n : ℕ) → k ≤ steps → IsDigitCount 10 1 n (suc k) → last_digits 10 (suc k) n ≡ decimal_by steps n
unfolding decimal_by
digits_by zero zero n h f =
    let same : n % 10 ≡ n = omega arith in
    rw (same, glyph_decimal n f.1)
digits_by zero (suc steps) n h f =
    let same : n % 10 ≡ n = omega arith in
    rw (same, glyph_decimal n f.1, lt-ltb n 10 f.1)
digits_by (suc k) zero n h f = absurd (omega arith)
digits_by (suc k) (suc steps) n h f =
    let least = least_power n k f in
    let less : suc k - 1 ≡ k = omega arith in
    let some : 1 ≤ 10 ^ k = one-le-pow k 10 (omega arith) in
    let rest : last_digits 10 (suc k) (n / 10) ≡ decimal_by steps (n / 10) = digits_by k steps (n / 10) (omega arith) (omega arith, omega arith, λ _. rw less (omega arith)) in
    rw (glyph_decimal (n % 10) (omega arith), rest, le-ltb n 10 (omega arith))

below_power : (k : ℕ) → k < 10 ^ k
below_power zero = omega arith
below_power (suc k) = let h = below_power k in omega arith

-- as many divisions as the number counts are enough
enough : (n k : ℕ) → IsDigitCount 10 1 n (suc k) → k ≤ n
enough n zero f = omega arith
enough n (suc k) f = let least = least_power n k f in let h = below_power (suc k) in omega arith

pub fewest_decimal : (n k : ℕ) → IsDigitCount 10 1 n k → last_digits 10 k n ≡ decimal n
fewest_decimal n zero f = absurd (omega arith)
fewest_decimal n (suc k) f = digits_by k n n (enough n k f) f
