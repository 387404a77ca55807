-- `listing_lines::room::lines_room` meets its contract. The invariant: what the first i lines leave of the room. Assumes nothing.
use Rattle.std.specs.Prelude.{Some}
use lib.ListN.{length}
use Rattle.listing_lines.specs.Room.{Taken}
use Rattle.listing_lines.proofs.LineLaws.{first_lines}
use Rattle.listing_lines.proofs.room.lines_room.Given as goal

abbrev pub invariant-loop-i : goal.invariant-loop-i
invariant-loop-i l = Taken (Some l.len) (length (first_lines l.envelope l.fields l.marks l.entries l.i)) (Some l.room)
