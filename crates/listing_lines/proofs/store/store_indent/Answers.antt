-- `listing_lines::store::store_indent` meets its contract. Assumes nothing.
use Rattle.stores.proofs.Storing.{stored_then, stored_as_lem}
use Rattle.listing_lines.proofs.LineLaws.{spaces_twice}
use Rattle.listing_lines.proofs.store.store_indent.Goals as goal

pub returns : goal.returns
returns c = stored_as_lem (spaces_twice c.args.level) (stored_then c.store_spaces-half.ensures c.store_spaces.ensures)
