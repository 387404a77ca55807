-- Eight numbers of eight bytes, turned: row j has byte j of each, as plane j of a split page has. The code writes eight elements at a time by this.
use Rattle.std.specs.Prelude.{◌≡◌, ℕ, zero, suc, ◌+◌, ◌*◌, ◌/◌, ◌<◌, ◌≤◌, Bool, true, List, length, bit_and, bit_or, slice_index}
use Rattle.coding.specs.Layout.{DeltaWidth, SplitWidth}
use Rattle.coding.specs.Strides.{puts}
use Rattle.planes.specs.Plane.{byte_at}

-- a width of split elements, with delta where it says so
pub record Widths (is_delta : Bool) (w : ℕ) : Type 0 where
  pub of_split : SplitWidth w
  pub of_delta : is_delta ≡ true → DeltaWidth w

-- the lanes of a number that a mask has, and those of another, moved up between them
abbrev pub evens : ℕ → ℕ → ℕ → ℕ → ℕ
evens mask up a b = bit_or (bit_and a mask) (bit_and b mask * up)

abbrev pub pairs : ℕ → ℕ → ℕ
pairs a b = evens 0x00FF00FF00FF00FF 256 a b

abbrev pub fours : ℕ → ℕ → ℕ → ℕ → ℕ → ℕ → ℕ
fours a b c d h m =
    evens 0x0000FFFF0000FFFF 65536 (evens 0x00000000FFFFFFFF 4294967296 (a / h) (c / h) / m) (evens 0x00000000FFFFFFFF 4294967296 (b / h) (d / h) / m)

-- the row h m l, where these are 1 or 256 ^ 4, 1 or 256 ^ 2, 1 or 256
unfoldable pub row : ℕ → ℕ → ℕ → ℕ → ℕ → ℕ → ℕ → ℕ → ℕ → ℕ → ℕ → ℕ
row a b c d e f g i h m l = pairs (fours a c e g h m / l) (fours b d f i h m / l)

-- a function's values at 0 to 7
abbrev pub eight_of : ℕ → ℕ → ℕ → ℕ → ℕ → ℕ → ℕ → ℕ → ℕ → ℕ
eight_of a b c d e f g h zero = a
eight_of a b c d e f g h (suc zero) = b
eight_of a b c d e f g h (suc (suc zero)) = c
eight_of a b c d e f g h (suc (suc (suc zero))) = d
eight_of a b c d e f g h (suc (suc (suc (suc zero)))) = e
eight_of a b c d e f g h (suc (suc (suc (suc (suc zero))))) = f
eight_of a b c d e f g h (suc (suc (suc (suc (suc (suc zero)))))) = g
eight_of a b c d e f g h (suc (suc (suc (suc (suc (suc (suc i))))))) = h

-- lent bytes after the rows of eight numbers were stored, n places apart
module _ (a b c d e f g i : ℕ) where
  unfoldable pub two_rows : ℕ → ℕ → ℕ → ℕ → List ℕ → List ℕ
  two_rows h m at n l = puts 8 (row a b c d e f g i h m 256) (at + n) (puts 8 (row a b c d e f g i h m 1) at l)

  unfoldable pub four_rows : ℕ → ℕ → ℕ → List ℕ → List ℕ
  four_rows h at n l = two_rows h 65536 (at + 2 * n) n (two_rows h 1 at n l)

  unfoldable pub eight_rows : ℕ → ℕ → List ℕ → List ℕ
  eight_rows at n l = four_rows 4294967296 (at + 4 * n) n (four_rows 1 at n l)

-- of k planes of n bytes in lent bytes, those of the eight elements from i on are written; the elements before them, and what is behind the planes, are as they were
pub record Turned (k n i : ℕ) (f : ℕ → ℕ) (old new : List ℕ) : Type 0 where
  pub same_size : length new ≡ length old
  pub kept : (j r : ℕ) → j < k → r < i → slice_index new (j * n + r) ≡ slice_index old (j * n + r)
  pub written : (j e : ℕ) → j < k → e < 8 → slice_index new (j * n + (i + e)) ≡ byte_at (f e) j
  pub behind : (p : ℕ) → k * n ≤ p → slice_index new p ≡ slice_index old p
