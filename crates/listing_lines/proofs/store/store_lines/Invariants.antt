-- `listing_lines::store::store_lines` meets its contract. The invariant: the first i lines stand there. Assumes nothing.
use mathlib.Core.Path.{◌≡◌}
use lib.ListN.{length}
use Rattle.stores.specs.Stored.{Stored}
use Rattle.listing_lines.proofs.LineLaws.{first_lines}
use Rattle.listing_lines.proofs.store.store_lines.Given as goal

abbrev pub invariant-loop-i : goal.invariant-loop-i
invariant-loop-i l = (length l.out ≡ length l.initial.out) × Stored l.initial.out 0 (first_lines l.envelope l.fields l.marks l.entries l.i) l.out l.at
