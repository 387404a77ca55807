-- `split_pages::write::write_eights` meets its contract. Assumes nothing.
use Rattle.std.proofs.Common.{◌/◌, ◌≤◌, length, get_or}
use Rattle.split_pages.specs.Split.{codes}
use Rattle.split_pages.proofs.Turning.{Written}
use Rattle.split_pages.proofs.write.write_eights.Given as goal

abbrev pub invariant-loop-i : goal.invariant-loop-i
invariant-loop-i l = (l.i ≤ length l.words) × Written (l.width / 8) (length l.words) l.i (λ r. get_or (codes l.delta l.zigzag l.width 0 l.words) r 0) l.initial.out l.out
