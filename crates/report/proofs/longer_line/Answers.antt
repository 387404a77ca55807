use native.Mathlib.Omega.{arith}
use Rattle.decimals.specs.Decimal.{text}
use Rattle.report.specs.Line.{longer_line}
use Rattle.report.proofs.LineLaws.{says_nothing, says_more}
use Rattle.report.proofs.longer_line.Goals as goal

pub returns : goal.returns
unfolding longer_line
returns c = (says_more (says_nothing c.empty.ensures) (text "1 longer than 65536\n") 20 (omega arith) (omega arith) c.with_text.ensures).is
