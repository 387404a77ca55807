-- `page_decoding::signed::unzigzag_all` meets its contract. Assumes nothing.
use Rattle.std.proofs.Common.{map, take}
use Rattle.coding.specs.Layout.{unzigzagged}
use Rattle.planes.proofs.Filling.{Filled}
use Rattle.page_decoding.proofs.signed.unzigzag_all.Given as goal

abbrev pub invariant-loop-i : goal.invariant-loop-i
invariant-loop-i l = Filled (map (unzigzagged l.width) (take l.n l.initial.out)) l.initial.out l.i l.out
