use native.Mathlib.Omega.{arith}
use Rattle.decimals.specs.Decimal.{text, decimal}
use Rattle.report.specs.Line.{accepted_line}
use Rattle.report.proofs.LineLaws.{says_nothing, says_more}
use Rattle.report.proofs.accepted_line.Goals as goal

pub returns : goal.returns
unfolding accepted_line
returns c = let head = says_more (says_nothing c.empty.ensures) (text "1 accepted ") 11 (omega arith) (omega arith) c.with_text.ensures in
    let fields = says_more head (decimal c.args.fields) 20 c.with_number-counted_fields.ensures.n_len_bound (omega arith) c.with_number-counted_fields.ensures.value in
    let to-columns = says_more fields (text " fields ") 8 (omega arith) (omega arith) c.with_text-2.ensures in
    let columns = says_more to-columns (decimal c.args.columns) 20 c.with_number-counted_columns.ensures.n_len_bound (omega arith) c.with_number-counted_columns.ensures.value in
    let to-aliases = says_more columns (text " columns ") 9 (omega arith) (omega arith) c.with_text-3.ensures in
    let aliases = says_more to-aliases (decimal c.args.aliases) 20 c.with_number-counted_aliases.ensures.n_len_bound (omega arith) c.with_number-counted_aliases.ensures.value in
    (says_more aliases (text " aliases\n") 9 (omega arith) (omega arith) c.with_text-4.ensures).is
