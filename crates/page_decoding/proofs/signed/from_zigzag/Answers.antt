-- `page_decoding::signed::from_zigzag` meets its contract. Assumes nothing.
use Rattle.std.proofs.Common.{◌/◌, sym, ◌∙◌, arith}
use Rattle.coding.proofs.Signs.{read_small, lowered, from_zigzag_even, from_zigzag_odd}
use Rattle.page_decoding.proofs.signed.from_zigzag.Goals as goal

pub returns-then-z-eq0 : goal.returns-then-z-eq0
returns-then-z-eq0 c = read_small (c.args.z / 2) (omega arith) ∙ sym (from_zigzag_even c.args.z c.if-z-eq0.true)

pub returns-else-z-eq0 : goal.returns-else-z-eq0
returns-else-z-eq0 c = lowered (c.args.z / 2) (omega arith) ∙ sym (from_zigzag_odd c.args.z c.if-z-eq0.false)
