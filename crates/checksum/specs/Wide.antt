-- The register held wide: as words, each of which is put on a word of the bytes that are still to come.
use Rattle.std.specs.Prelude.{ℕ, ◌*◌, ◌-◌, ◌^◌, List, [], ◌∷◌, length, drop}
use Rattle.std.specs.Int.Bits.{bit_xor}
use Rattle.checksum.specs.Crc.{fold}
use Rattle.checksum.specs.declared.wide.Wide.{Wide}

-- words as one number, the first lowest
unfoldable pub joined : List ℕ → ℕ
joined [] = 0
joined (w ∷ ws) = bit_xor w (joined ws * 2 ^ 64)

abbrev pub words_of : Wide → List ℕ
words_of w = w.a ∷ w.b ∷ w.c ∷ w.d ∷ w.e ∷ []

-- the last words of some bytes
unfoldable pub ending : ℕ → List ℕ → List ℕ
ending left s = drop (length s - 8 * left) s

-- where they take the register
unfoldable pub finish : ℕ → List ℕ → Wide → ℕ
finish left s w = fold (joined (words_of w)) (ending left s)
