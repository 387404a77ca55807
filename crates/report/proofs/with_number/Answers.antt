use mathlib.Core.Path.{◌≡◌, ap, ◌∙◌}
use native.Mathlib.Omega.{arith}
use lib.ListN.{length}
use Rattle.decimals.specs.Decimal.{decimal}
use Rattle.report.specs.Line.{added}
use borrow.Author.Rules.{rules}
use Rattle.report.proofs.with_number.Goals as goal

pub returns : goal.returns
returns c = let a = c.args in
    let made = c.digits_of-digits in
    let digits = made.result in
    let counted : digits.len ≡ length (decimal a.n) = made.ensures.counts.1 ∙ ap length made.ensures.is in
    let room : length digits.bytes ≡ 20 = search rules in
    let fits = made.ensures.counts.0 in
    record { value = c.with_text.ensures ∙ ap (added a.line) made.ensures.is; n_len_bound = omega arith }
