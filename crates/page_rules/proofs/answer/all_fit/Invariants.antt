-- `page_rules::answer::all_fit` meets its contract. Assumes nothing.
use Prim.Native.Nat.{◌*◌}
use lib.ListN.{take}
use Rattle.coding.specs.Layout.{FitsAs}
use Rattle.page_rules.proofs.answer.all_fit.Given as goal

abbrev pub invariant-loop-g : goal.invariant-loop-g
invariant-loop-g l = FitsAs l.all (take (32 * l.g) l.words)
