-- `page_decoding::read::has_zigzag` meets its contract: the mark, and no type of at most 8 bits has it. Assumes nothing.
use Rattle.std.proofs.Common.{sym, ◌∙◌, arith, le-ltb}
use mathlib.Core.Bool.{false≢true}
use Rattle.page_rules.proofs.Widths.{no_zigzag}
use Rattle.page_decoding.proofs.read.has_zigzag.Goals as goal

pub returns-else-width-gt8 : goal.returns-else-width-gt8
returns-else-width-gt8 c = let w = c.args.width in
    let no = le-ltb _ w c.if-width-gt8.false in
    (λ yes. absurd (false≢true (sym no ∙ yes)), λ t e m. no ∙ no_zigzag t w e (omega (arith, c.if-width-gt8.false)))
