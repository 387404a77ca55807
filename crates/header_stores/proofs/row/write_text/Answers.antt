-- `header_stores::row::write_text` meets its contract. Assumes nothing.
use Prim.Native.Nat.{ℕ}
use mathlib.Core.Path.{ap}
use mathlib.Core.List.{List, ◌++◌}
use lib.ListN.{length}
use Rattle.tree.specs.Bytes.{spelled}
use Rattle.writing.specs.Piece.{text}
use Rattle.stores.proofs.Storing.{stored_then, stored_as_lem}
use Rattle.header_stores.proofs.row.write_text.Goals as goal

pub returns : goal.returns
unfolding text
returns c = stored_as_lem (ap (λ (cs : List ℕ). spelled 4 (length cs) ++ cs) c.characters-characters.ensures) (stored_then c.store_4-next.ensures c.store_bytes.ensures)
