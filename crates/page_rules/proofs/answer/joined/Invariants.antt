-- `page_rules::answer::joined` meets its contract. Assumes nothing.
use lib.ListN.{take, drop}
use Rattle.coding.specs.Layout.{FitsAs}
use Rattle.page_rules.proofs.answer.joined.Given as goal

abbrev pub invariant-loop-i : goal.invariant-loop-i
invariant-loop-i l = FitsAs l.all (take l.i (drop l.from l.words))
