-- `listing_lines::store::store_shown` meets its contract. The invariant: so many bytes are copied, as they print. Assumes nothing.
use Rattle.listing.specs.Lines.{shown}
use Rattle.stores.proofs.Copying.{Copying}
use Rattle.listing_lines.proofs.store.store_shown.Given as goal

abbrev pub invariant-loop-i : goal.invariant-loop-i
invariant-loop-i l = Copying l.initial.out l.at (shown l.bytes) l.i l.out
