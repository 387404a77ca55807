use Prim.Native.Nat.{ℕ, ◌-◌, ◌^◌}
use mathlib.Core.Path.{ap}
use mathlib.Core.List.{◌++◌}
use denote.Ref.{at_last}
use Rattle.tree.specs.Bytes.{spelled}
use Rattle.stores.proofs.Storing.{stored_as_lem}
use Rattle.stores.proofs.framed.store_list.Goals as goal

pub returns : goal.returns
returns g c =
    record {
      place = c.store_8-place.result;
      before = at_last c.args.out c.store_8-place.new.out;
      after = at_last c.args.out c.store_items-end.new.out;
      behind = c.store_list_head.result;
      room = c.store_8-place.ensures;
      items = c.store_items-end.ensures;
      head = stored_as_lem (ap (λ (size : ℕ). spelled 4 (2 ^ 32 - size) ++ spelled 4 c.args.n) c.saturating_sub.ensures) c.store_list_head.ensures;
    }
