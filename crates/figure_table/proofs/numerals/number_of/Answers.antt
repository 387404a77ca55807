use mathlib.Core.Path.{◌∙◌}
use native.Mathlib.Omega.{arith}
use Rattle.figure_table.proofs.NumeralLaws.{reading_start, reading_more, reading_none, reading_end, numeral_none}
use Rattle.figure_table.proofs.numerals.number_of.Goals as goal

pub returns-then-text-eq0 : goal.returns-then-text-eq0
returns-then-text-eq0 c = numeral_none _ (omega arith)

pub loop-byte-init : goal.loop-byte-init
loop-byte-init c = reading_start _ (omega arith)

pub returns-in_err-n : goal.returns-in_err-n
returns-in_err-n c = c.from_residual.ensures ∙ reading_none c.loop-byte.invariant c.loop-byte-test.true c.with_digit.ensures c.in_err-n.was

pub loop-byte-preserved : goal.loop-byte-preserved
loop-byte-preserved c = reading_more c.loop-byte.invariant c.loop-byte-test.true c.with_digit.ensures c.in_ok-n.was

pub returns : goal.returns
returns c = reading_end c.loop-byte.invariant (omega arith)
