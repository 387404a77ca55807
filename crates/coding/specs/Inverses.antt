-- Delta, zigzag, split, plain bytes and bits: each way undoes the other, at every width, with any bytes behind.
use Rattle.std.specs.Prelude.{ℕ, ◌+◌, ◌*◌, ◌/◌, ◌%◌, ◌^◌, ◌<◌, ◌≤◌, ◌≡◌, List, [], ◌∷◌, ◌++◌, length, take, get_or}
use Rattle.coding.specs.Layout.{deltas, sums, zigzagged, unzigzagged, plain, unplain, planes, unplanes, packed, unpacked}

-- each is below a bound; bytes are below 256
abbrev pub Below : ℕ → List ℕ → Type 0
Below m [] = Unit {0}
Below m (x ∷ xs) = (x < m) × Below m xs

-- at w bits
unfoldable pub DeltaInverse : Type 0
DeltaInverse = (w : ℕ) (xs : List ℕ) → Below (2 ^ w) xs → (sums w 0 (deltas w 0 xs) ≡ xs) × (deltas w 0 (sums w 0 xs) ≡ xs)

unfoldable pub ZigzagInverse : Type 0
ZigzagInverse = (w : ℕ) → 1 ≤ w → (x : ℕ) → x < 2 ^ w → (unzigzagged w (zigzagged w x) ≡ x) × (zigzagged w (unzigzagged w x) ≡ x)

-- at k bytes
unfoldable pub SplitInverse : Type 0
SplitInverse =
    (k : ℕ)
    → ((xs rest : List ℕ) → Below (256 ^ k) xs → unplanes k (length xs) (planes k xs ++ rest) ≡ xs)
    × ((n : ℕ) (bs : List ℕ) → k * n ≤ length bs → Below 256 bs → planes k (unplanes k n bs) ≡ take (k * n) bs)

unfoldable pub PlainInverse : Type 0
PlainInverse =
    (k : ℕ)
    → ((xs rest : List ℕ) → Below (256 ^ k) xs → unplain k (length xs) (plain k xs ++ rest) ≡ xs)
    × ((n : ℕ) (bs : List ℕ) → n * k ≤ length bs → Below 256 bs → plain k (unplain k n bs) ≡ take (n * k) bs)

-- at m bytes; back only where the unused bits are zero
unfoldable pub BitsInverse : Type 0
BitsInverse =
    (m : ℕ)
    → ((xs rest : List ℕ) → length xs ≤ 8 * m → Below 2 xs → unpacked (length xs) 0 (packed m xs ++ rest) ≡ xs)
    × ((n : ℕ) (bs : List ℕ) → m ≡ (n + 7) / 8 → m ≤ length bs → Below 256 bs → ((n % 8 ≡ 0 → ⊥) → get_or bs (n / 8) 0 < 2 ^ (n % 8)) → packed m (unpacked n 0 bs) ≡ take m bs)
