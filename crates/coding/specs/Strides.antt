-- Numbers in bytes, as the code reads planes and stores numbers.
use Rattle.std.specs.Prelude.{ℕ, zero, suc, ◌+◌, ◌*◌, ◌/◌, ◌%◌, List, set, get_or}

-- the number whose k bytes, least significant first, stand at a place and then every `step` places on, as in the planes of a split page; `little` is that at step 1
unfoldable pub strided : ℕ → ℕ → List ℕ → ℕ → ℕ
strided zero step s at = 0
strided (suc k) step s at = get_or s at 0 + 256 * strided k step s (at + step)

-- lent bytes after k bytes of a number were stored from a place on
unfoldable pub puts : ℕ → ℕ → ℕ → List ℕ → List ℕ
puts zero x at d = d
puts (suc k) x at d = puts k (x / 256) (at + 1) (set d at (x % 256))
