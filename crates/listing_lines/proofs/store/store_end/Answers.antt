-- `listing_lines::store::store_end` meets its contract. Assumes nothing.
use Rattle.listing_lines.proofs.store.store_end.Goals as goal

pub returns-then-dark : goal.returns-then-dark
returns-then-dark c = rw c.if-dark.true c.store_bytes.ensures

pub returns : goal.returns
returns c = rw c.if-dark.false c.store_bytes-2.ensures
