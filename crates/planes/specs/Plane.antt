-- One plane of a split page, placed into numbers: plane p has byte p of each.
use Rattle.std.specs.Prelude.{ℕ, ◌+◌, ◌*◌, ◌/◌, ◌%◌, ◌^◌, ◌<◌, ◌≤◌, ◌≡◌, List, [], ◌∷◌, length, replicate, get_or, ltb}
use Rattle.numbers.specs.Choice.{pick}

-- byte p of a number, from the least significant
abbrev pub byte_at : ℕ → ℕ → ℕ
byte_at x p = x / 256 ^ p % 256

-- a number of k bytes with its byte p replaced; where it has no byte p, it stays as it is
unfoldable pub with_byte : ℕ → ℕ → ℕ → ℕ → ℕ
with_byte k p b x = pick (ltb p k) (x % 256 ^ p + 256 ^ p * (b + 256 * (x / 256 ^ p / 256))) x

-- each byte with the number at its place; the numbers behind the last byte stay as they are
unfoldable pub joined_by : (ℕ → ℕ → ℕ) → List ℕ → List ℕ → List ℕ
joined_by f [] xs = xs
joined_by f (b ∷ bs) [] = []
joined_by f (b ∷ bs) (x ∷ xs) = f b x ∷ joined_by f bs xs

-- numbers of k bytes after plane p was placed
abbrev pub placed : ℕ → ℕ → List ℕ → List ℕ → List ℕ
placed k p = joined_by (with_byte k p)

-- what that means: each number that the plane has a byte for then has that byte as byte p, and its other bytes as before; the numbers behind are as they
-- were; and all are where they have no byte p
unfoldable pub PlacesOnePlane : Type 0
PlacesOnePlane =
    (k p : ℕ) (plane xs : List ℕ) → ((i : ℕ) → get_or plane i 0 < 256)
    → (length (placed k p plane xs) ≡ length xs)
    × ((i : ℕ) → p < k → i < length plane → i < length xs
    → (byte_at (get_or (placed k p plane xs) i 0) p ≡ get_or plane i 0)
    × ((q : ℕ) → (q ≡ p → ⊥) → byte_at (get_or (placed k p plane xs) i 0) q ≡ byte_at (get_or xs i 0) q))
    × ((i : ℕ) → length plane ≤ i → get_or (placed k p plane xs) i 0 ≡ get_or xs i 0)
    × (k ≤ p → placed k p plane xs ≡ xs)

-- words that get k bytes each: cleared, unless these are all their bytes
unfoldable pub cleared : ℕ → List ℕ → List ℕ
cleared k ws = pick (ltb k 8) (replicate (length ws) 0) ws
