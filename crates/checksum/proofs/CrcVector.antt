-- The check value of the CRC-32: that of the ASCII digits 1 to 9.
use mathlib.Core.Path.{◌≡◌, refl}
use mathlib.Core.List.{[], ◌∷◌}
use Rattle.checksum.specs.Crc.{crc32, fold, byte, bits, shifted}

pub check_value : crc32 (49 ∷ 50 ∷ 51 ∷ 52 ∷ 53 ∷ 54 ∷ 55 ∷ 56 ∷ 57 ∷ []) ≡ 0xCBF43926
unfolding crc32 fold byte bits shifted
check_value = refl
