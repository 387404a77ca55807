-- `page_decoding::read::has_delta` meets its contract: the mark, and no type of at most 16 bits has it. Assumes nothing.
use Rattle.std.proofs.Common.{sym, ◌∙◌, arith, le-ltb}
use mathlib.Core.Bool.{false≢true}
use Rattle.page_rules.proofs.Widths.{no_delta}
use Rattle.page_decoding.proofs.read.has_delta.Goals as goal

pub returns-else-width-gt16 : goal.returns-else-width-gt16
returns-else-width-gt16 c = let w = c.args.width in
    let no = le-ltb _ w c.if-width-gt16.false in
    (λ yes. absurd (false≢true (sym no ∙ yes)), λ t e m. no ∙ no_delta t w e (omega (arith, c.if-width-gt16.false)))
