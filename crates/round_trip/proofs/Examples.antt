-- Document 01's starred cases on pages, and the Bit page's, computed.
-- Assumes nothing.
use mathlib.Core.Path.{◌≡◌, refl}
use mathlib.Core.Bool.{false}
use mathlib.Core.List.{List, [], ◌∷◌}
use Prim.Native.Nat.{ℕ, ◌-◌, ◌^◌}
use Rattle.column_type.specs.Types.{known, widths, width_of, split, delta, zigzag}
use Rattle.coding.specs.Layout.{deltas, zigzagged, planes, bits_byte, packed}
use Rattle.page_rules.specs.Page.{bytes, checksum_right, unused_clear, decode_outcome, refuse}
use Rattle.coding.specs.Signed.{from_bits, to_zigzag}

-- zigzag at 16 bits: 0, -1, 1, 32767, -32768
zigzag_16 : List ℕ
zigzag_16 = zigzagged 16 0 ∷ zigzagged 16 (2 ^ 16 - 1) ∷ zigzagged 16 1 ∷ zigzagged 16 32767 ∷ zigzagged 16 (2 ^ 16 - 32768) ∷ []

zigzag_16_is : zigzag_16 ≡ (0 ∷ 1 ∷ 2 ∷ 65534 ∷ 65535 ∷ [])
unfolding zigzag_16 zigzagged from_bits to_zigzag
zigzag_16_is = refl

-- Index32 values 1, 1, 3 as 0F
index_32 : bytes 0x0F (1 ∷ 1 ∷ 3 ∷ []) ≡ (1 ∷ 0 ∷ 2 ∷ 0 ∷ 0 ∷ 0 ∷ 0 ∷ 0 ∷ 0 ∷ 0 ∷ 0 ∷ 0 ∷ [])
unfolding bytes deltas planes known width_of widths split delta zigzag
index_32 = refl

deltas_32 : deltas 32 0 (5 ∷ 3 ∷ []) ≡ (5 ∷ 4294967294 ∷ [])
unfolding deltas
deltas_32 = refl

split_16 : planes 2 (0x1234 ∷ 0xABCD ∷ []) ≡ (0x34 ∷ 0xCD ∷ 0x12 ∷ 0xAB ∷ [])
unfolding planes
split_16 = refl

-- Bit values true, seven false, true
bit_page : bytes 6 (1 ∷ 0 ∷ 0 ∷ 0 ∷ 0 ∷ 0 ∷ 0 ∷ 0 ∷ 1 ∷ []) ≡ (1 ∷ 1 ∷ [])
unfolding bytes packed bits_byte
bit_page = refl

-- bytes 01 03 for nine elements: 24
bit_unused : decode_outcome 6 9 false (1 ∷ 3 ∷ []) 9 0 ≡ refuse 24
unfolding decode_outcome checksum_right unused_clear known width_of widths Rattle.numbers.specs.Numbers.little
bit_unused = refl
