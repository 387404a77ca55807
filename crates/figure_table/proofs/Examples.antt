-- The worked texts, computed.
use mathlib.Core.Path.{refl}
use Rattle.decimals.specs.Decimal.{decimal_by}
use Rattle.figure_table.specs.Table.{cell, type_text, row_text}
use Rattle.figure_table.specs.Numeral.{with_digit, with_digits, numeral}
use Rattle.figure_table.specs.Examples.{OrdinaryRow, WideRow, LargestNumber, OneMore, ZerosInFront, NoDigits, OtherBytes}

pub ordinary_row : OrdinaryRow
unfolding decimal_by cell type_text row_text
ordinary_row = refl

pub wide_row : WideRow
unfolding decimal_by cell type_text row_text
wide_row = refl

pub largest_number : LargestNumber
unfolding with_digit with_digits numeral
largest_number = refl

pub one_more : OneMore
unfolding with_digit with_digits numeral
one_more = refl

pub zeros_in_front : ZerosInFront
unfolding with_digit with_digits numeral
zeros_in_front = refl

pub no_digits : NoDigits
unfolding numeral
no_digits = refl

pub other_bytes : OtherBytes
unfolding with_digit with_digits numeral
other_bytes = (refl, refl, refl)
