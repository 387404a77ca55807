-- `stores::store_number` meets its contract, for every k. Assumes nothing.
use Rattle.coding.proofs.PutLoop.{Left}
use Rattle.stores.proofs.store_number.Given as goal

abbrev pub invariant-loop-j : goal.invariant-loop-j
invariant-loop-j l = Left l.k l.x l.at l.initial.out l.out l.rest l.j
