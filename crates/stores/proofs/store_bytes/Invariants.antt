use Rattle.stores.proofs.Copying.{Copying}
use Rattle.stores.proofs.store_bytes.Given as goal

abbrev pub invariant-loop-i : goal.invariant-loop-i
invariant-loop-i l = Copying l.initial.out l.at l.bytes l.i l.out
