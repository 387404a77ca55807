-- The reflected CRC-32 with polynomial EDB88320, start and final inversion FFFFFFFF.
use Rattle.std.specs.Prelude.{ℕ, ◌-◌, List, [], ◌∷◌}
unfoldable pub use Rattle.crc_register.specs.Register.{shifted, bits, byte}

-- the register after some bytes
unfoldable pub fold : ℕ → List ℕ → ℕ
fold c [] = c
fold c (b ∷ bs) = fold (byte c b) bs

unfoldable pub crc32 : List ℕ → ℕ
crc32 bs = 0xFFFFFFFF - fold 0xFFFFFFFF bs
