-- How elements stand in the bytes of a page: delta and zigzag on the elements, then their bytes plain, split or as bits. Each way has its inverse beside it.
use Rattle.std.specs.Prelude.{Bool, true, ℕ, zero, suc, ◌+◌, ◌*◌, ◌-◌, ◌/◌, ◌%◌, ◌^◌, List, [], ◌∷◌, ◌++◌, map, ◌≡◌, ◌⊎◌, take, drop, replicate, get_or, ltb}
use Rattle.numbers.specs.Choice.{pick, both}
use Rattle.numbers.specs.Numbers.{little}
use Rattle.coding.specs.Signed.{to_bits, from_bits, to_zigzag, from_zigzag}

-- the widths of elements with delta, and of those that are split, with zigzag too
abbrev pub DeltaWidth : ℕ → Type 0
DeltaWidth w = (w ≡ 32) ⊎ (w ≡ 64)

abbrev pub SplitWidth : ℕ → Type 0
SplitWidth w = (w ≡ 16) ⊎ ((w ≡ 32) ⊎ (w ≡ 64))

-- how many bytes an element has that is no bit
abbrev pub WholeBytes : ℕ → Type 0
WholeBytes k = (k ≡ 1) ⊎ ((k ≡ 2) ⊎ ((k ≡ 4) ⊎ (k ≡ 8)))

-- delta: each element as its difference from the one before, modulo 2 to the width w; the first is stored as it is, since the one before it counts as 0

unfoldable pub deltas : ℕ → ℕ → List ℕ → List ℕ
deltas w before [] = []
deltas w before (x ∷ xs) = (x + 2 ^ w - before) % 2 ^ w ∷ deltas w x xs

unfoldable pub sums : ℕ → ℕ → List ℕ → List ℕ
sums w before [] = []
sums w before (d ∷ ds) = (before + d) % 2 ^ w ∷ sums w ((before + d) % 2 ^ w) ds

-- zigzag, of signed elements, each as its two's complement at its width w

unfoldable pub zigzagged : ℕ → ℕ → ℕ
zigzagged w x = to_zigzag (from_bits w x)

unfoldable pub unzigzagged : ℕ → ℕ → ℕ
unzigzagged w z = to_bits w (from_zigzag z)

-- plain: the k bytes of each element, least significant first

unfoldable pub bytes_of : ℕ → ℕ → List ℕ
bytes_of zero x = []
bytes_of (suc k) x = x % 256 ∷ bytes_of k (x / 256)

unfoldable pub plain : ℕ → List ℕ → List ℕ
plain k [] = []
plain k (x ∷ xs) = bytes_of k x ++ plain k xs

unfoldable pub unplain : ℕ → ℕ → List ℕ → List ℕ
unplain k zero bs = []
unplain k (suc n) bs = little k bs 0 ∷ unplain k n (drop k bs)

-- split: all first bytes, then all second bytes, and so on

unfoldable pub planes : ℕ → List ℕ → List ℕ
planes zero xs = []
planes (suc k) xs = map (λ (x : ℕ). x % 256) xs ++ planes k (map (λ (x : ℕ). x / 256) xs)

-- each byte below its element's bytes above it
unfoldable pub under : List ℕ → List ℕ → List ℕ
under [] hs = []
under (b ∷ bs) [] = []
under (b ∷ bs) (h ∷ hs) = (b + 256 * h) ∷ under bs hs

unfoldable pub unplanes : ℕ → ℕ → List ℕ → List ℕ
unplanes zero n bs = replicate n 0
unplanes (suc k) n bs = under (take n bs) (unplanes k n (drop n bs))

-- bits: each byte filled from the least significant bit

unfoldable pub bits_byte : ℕ → List ℕ → ℕ
bits_byte zero xs = 0
bits_byte (suc k) [] = 0
bits_byte (suc k) (x ∷ xs) = x + 2 * bits_byte k xs

unfoldable pub packed : ℕ → List ℕ → List ℕ
packed zero xs = []
packed (suc n) xs = bits_byte 8 xs ∷ packed n (drop 8 xs)

-- the bit at place i of the bytes
abbrev pub bit_at : List ℕ → ℕ → ℕ
bit_at bs i = get_or bs (i / 8) 0 / 2 ^ (i % 8) % 2

unfoldable pub unpacked : ℕ → ℕ → List ℕ → List ℕ
unpacked zero i bs = []
unpacked (suc n) i bs = bit_at bs i ∷ unpacked n (i + 1) bs

-- the numbers that are stored, with delta or zigzag, and their bytes, split or plain

abbrev pub coded_by : Bool → Bool → ℕ → List ℕ → List ℕ
coded_by is_delta is_zigzag w xs = pick is_delta (deltas w 0 xs) (pick is_zigzag (map (zigzagged w) xs) xs)

abbrev pub laid_out : Bool → ℕ → List ℕ → List ℕ
laid_out is_split k xs = pick is_split (planes k xs) (plain k xs)

-- the largest number of w bits; no machine word has more than 64
unfoldable pub largest : ℕ → ℕ
largest w = pick (ltb w 64) (2 ^ w - 1) (2 ^ 64 - 1)

-- each fits its width
unfoldable pub fit : ℕ → List ℕ → Bool
fit w [] = true
fit w (x ∷ xs) = both (ltb x (2 ^ w)) (fit w xs)

-- a number that fits the widths that each of these fits, and no others, as the bits of all of them do
abbrev pub FitsAs : ℕ → List ℕ → Type 0
FitsAs x xs = (w : ℕ) → ltb x (2 ^ w) ≡ fit w xs
