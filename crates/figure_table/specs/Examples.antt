-- Worked texts: a row, and what is a number.
use Rattle.std.specs.Prelude.{[], ◌≡◌, Some, None}
use Rattle.decimals.specs.Decimal.{text}
use Rattle.figure_table.specs.Table.{row_text}
use Rattle.figure_table.specs.Numeral.{numeral}

-- an ordinary row, and one with a number that has more digits than places

abbrev pub OrdinaryRow : Type 0
OrdinaryRow =
    row_text (record { column = 12; column_type = 28; pages = 3; elements = 207; stored = 1656; checksums = 0; field = 5 })
    ≡ text "     12 0x001c        3             207            1656         0     5 "

abbrev pub WideRow : Type 0
WideRow =
    row_text (record { column = 1023; column_type = 65535; pages = 16384; elements = 0; stored = 0; checksums = 0; field = 123456 })
    ≡ text "   1023 0xffff    16384               0               0         0 123456 "

-- numbers end where 64 bits do, and have nothing but digits

abbrev pub LargestNumber : Type 0
LargestNumber = numeral (text "18446744073709551615") ≡ Some 18446744073709551615

abbrev pub OneMore : Type 0
OneMore = numeral (text "18446744073709551616") ≡ None

abbrev pub ZerosInFront : Type 0
ZerosInFront = numeral (text "00000000000000000000000042") ≡ Some 42

abbrev pub NoDigits : Type 0
NoDigits = numeral [] ≡ None

abbrev pub OtherBytes : Type 0
OtherBytes = (numeral (text "12x") ≡ None) × (numeral (text "-1") ≡ None) × (numeral (text "0 ") ≡ None)
