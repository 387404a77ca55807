-- Little-endian numbers in a list of bytes, and how many bytes a page has.
use Rattle.std.specs.Prelude.{ℕ, zero, suc, ◌+◌, ◌*◌, ◌/◌, ◌≤◌, ◌≡◌, Bool, true, List, [], length, get_or, leb}
use Rattle.numbers.specs.Choice.{pick}

-- the number that k bytes from a place spell, least significant first
unfoldable pub little : ℕ → List ℕ → ℕ → ℕ
little zero s at = 0
little (suc k) s at = get_or s at 0 + 256 * little k s (at + 1)

-- the same where all of the bytes are there, else 0
unfoldable pub little_in : ℕ → List ℕ → ℕ → ℕ
little_in k s at = pick (leb (at + k) (length s)) (little k s at) 0

-- a test for room: what it is, and what it shows where it holds
pub record Room (s : List ℕ) (at len : ℕ) (r : Bool) : Type 0 where
  pub is : r ≡ leb (at + len) (length s)
  pub fits : r ≡ true → at + len ≤ length s

-- a number of k bytes that was read at a place: what it is, and the same where the bytes are there
pub record Little (k : ℕ) (s : List ℕ) (at r : ℕ) : Type 0 where
  pub is : r ≡ little_in k s at
  pub there : at + k ≤ length s → r ≡ little k s at

-- the bytes that hold n elements of so many bits
abbrev pub bytes_for : ℕ → ℕ → ℕ
bytes_for n bits = (n * bits + 7) / 8

-- the bytes of the checksum behind a page, if one follows it
abbrev pub trailer : Bool → ℕ
trailer checksum = pick checksum 4 0
