-- A word shifted by each of some shifts.
use mathlib.Core.Path.{◌≡◌, sym, ap, ◌∙◌}
use mathlib.Core.List.{List, [], ◌∷◌}
use Prim.Native.Nat.{ℕ, ◌-◌, ◌*◌, ◌/◌, ◌%◌, ◌^◌}
use lib.Bits.{bit_xor, xor_zero_r}
use Rattle.crc_register.proofs.Xor.{xor_assoc}

-- a number with each of a list put on it
unfoldable pub xors : ℕ → List ℕ → ℕ
xors a [] = a
xors a (b ∷ l) = xors (bit_xor a b) l

pub xors_is : (a : ℕ) (l : List ℕ) → xors a l ≡ bit_xor a (xors 0 l)
unfolding xors
xors_is a [] = sym (xor_zero_r a)
xors_is a (b ∷ l) = xors_is (bit_xor a b) l ∙ xor_assoc a b (xors 0 l) ∙ ap (bit_xor a) (sym (xors_is b l))

-- what a word shifted up by each of some shifts leaves in its word, and what goes to the next
unfoldable pub lefts : List ℕ → ℕ → List ℕ
lefts [] x = []
lefts (k ∷ ks) x = (x * 2 ^ k % 2 ^ 64) ∷ lefts ks x

unfoldable pub rights : List ℕ → ℕ → List ℕ
rights [] x = []
rights (k ∷ ks) x = (x / 2 ^ (64 - k)) ∷ rights ks x
