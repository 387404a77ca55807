use native.Mathlib.Omega.{arith}
use Rattle.decimals.specs.Decimal.{text, decimal}
use Rattle.report.specs.Line.{refused_line}
use Rattle.report.proofs.LineLaws.{says_nothing, says_more}
use Rattle.report.proofs.refused_line.Goals as goal

pub returns : goal.returns
unfolding refused_line
returns c = let head = says_more (says_nothing c.empty.ensures) (text "1 refused ") 10 (omega arith) (omega arith) c.with_text.ensures in
    let number = says_more head (decimal c.args.number) 20 c.with_number.ensures.n_len_bound (omega arith) c.with_number.ensures.value in
    (says_more number (text "\n") 1 (omega arith) (omega arith) c.with_text-2.ensures).is
