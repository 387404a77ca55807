-- `stores::store_list_head` meets its contract. Assumes nothing.
use Prim.Native.Nat.{ℕ}
use mathlib.Core.Path.{ap}
use mathlib.Core.List.{◌++◌}
use Rattle.tree.specs.Bytes.{spelled}
use Rattle.stores.proofs.Storing.{stored_then, stored_as_lem}
use Rattle.stores.proofs.store_list_head.Goals as goal

pub returns : goal.returns
returns c = stored_as_lem (ap (λ (w : ℕ). spelled 4 w ++ spelled 4 c.args.n) c.size_word.ensures) (stored_then c.store_4-next.ensures c.store_4.ensures)
