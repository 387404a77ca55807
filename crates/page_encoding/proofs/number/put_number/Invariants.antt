-- `page_encoding::number::put_number` meets its contract. The invariant: the bytes that are left to store are those of the rest. Assumes nothing.
use Rattle.coding.proofs.PutLoop.{Left}
use Rattle.page_encoding.proofs.number.put_number.Given as goal

abbrev pub invariant-loop-j : goal.invariant-loop-j
invariant-loop-j l = Left l.k l.x l.at l.initial.out l.out l.rest l.j
