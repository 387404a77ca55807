-- `figure_table::numerals::with_digit` meets its contract. Assumes nothing.
use native.Mathlib.Omega.{arith}
use Rattle.figure_table.proofs.NumeralLaws.{no_digit_low, no_digit_high, digit_passes, digit_fits}
use Rattle.figure_table.proofs.numerals.with_digit.Goals as goal

pub returns-then-byte-lt48 : goal.returns-then-byte-lt48
returns-then-byte-lt48 c = no_digit_low _ _ c.if-byte-lt48.true

pub returns-then-byte-gt57 : goal.returns-then-byte-gt57
returns-then-byte-gt57 c = no_digit_high _ _ c.if-byte-gt57.true

pub returns-then-n-gt1844674407370955161 : goal.returns-then-n-gt1844674407370955161
returns-then-n-gt1844674407370955161 c = digit_passes _ _ (omega arith) (omega arith) (omega arith)

pub returns-then-n-digit : goal.returns-then-n-digit
returns-then-n-digit c = digit_passes _ _ (omega arith) (omega arith) (omega arith)

pub returns : goal.returns
returns c = digit_fits _ _ (omega arith) (omega arith) (omega arith)
