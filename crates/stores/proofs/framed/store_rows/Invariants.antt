use Rattle.stores.specs.Rowed.{Rowed}
use Rattle.stores.proofs.framed.store_rows.Given as goal

abbrev pub invariant-loop-i : goal.invariant-loop-i
invariant-loop-i g l = Rowed (λ i place before end after. g.R.StoreRow.leaves l.rows i place before.now end after.now) l.initial.out l.at l.i l.out l.next
