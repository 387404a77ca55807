-- `listing_lines::write_lines` meets its contract. Assumes nothing.
use Rattle.listing_lines.proofs.AnswerLaws.{listed, unlisted}
use Rattle.listing_lines.proofs.write_lines.Goals as goal

pub returns-in-Some : goal.returns-in-Some
returns-in-Some c = let both = listed _ _ (rw c.in-Some.is at c.lines_room.ensures) c.store_lines-written.ensures in
    record { answers = both.0; leaves = both.1 }

pub returns-in-None : goal.returns-in-None
returns-in-None c = let both = unlisted _ _ (rw c.in-None.is at c.lines_room.ensures) in
    record { answers = both.0; leaves = both.1 }
