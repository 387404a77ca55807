-- `header_stores::row::write_alias` meets its contract. Assumes nothing.
use Rattle.writing.specs.Header.{alias_piece}
use Rattle.stores.proofs.Storing.{stored_none, stored_then, stored_sized}
use Rattle.header_stores.proofs.Sizes.{alias_size}
use Rattle.header_stores.proofs.row.write_alias.Goals as goal

pub returns : goal.returns
unfolding alias_piece
returns c = λ flags columns. stored_sized 12 _ (alias_size flags columns c.args.alias) c.store_4-first.ensures (stored_then c.store_4-second.ensures (stored_then c.store_4.ensures (stored_none _ _)))
