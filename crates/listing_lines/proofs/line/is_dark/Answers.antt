-- `listing_lines::line::is_dark` meets its contract. Assumes nothing.
use lib.ListN.{get_or-eq_default}
use Rattle.listing_lines.proofs.line.is_dark.Goals as goal

pub returns : goal.returns
returns c = rw (get_or-eq_default c.args.marks.now 0 c.if-k-marks.false)
