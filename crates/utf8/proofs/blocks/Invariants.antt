use Prim.Native.Nat.{◌-◌}
use lib.ListN.{length}
use Rattle.utf8.specs.Walking.{blocks_from}
use Rattle.utf8.proofs.BlockLaws.{Blocks}
use Rattle.utf8.proofs.blocks.Given as goal

abbrev pub invariant-loop-at : goal.invariant-loop-at
invariant-loop-at l = Blocks l.s l.size (blocks_from (length l.s) l.s l.size l.from) l.at

abbrev pub decreases-loop-at : goal.decreases-loop-at
decreases-loop-at l = length l.s - l.at
