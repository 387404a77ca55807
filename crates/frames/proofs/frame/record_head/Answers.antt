use Rattle.frames.specs.Frames.{record_head}
use borrow.Author.Rules.{rules}
use Rattle.frames.proofs.frame.record_head.Goals as goal

pub returns-in-RecordSize : goal.returns-in-RecordSize
unfolding record_head
returns-in-RecordSize c = simp (← c.has_room.ensures.is, c.if-has_room.true, ← (c.little_4.ensures.0.there (c.has_room.ensures.fits c.if-has_room.true)), ← c.frame_size.ensures, c.in-RecordSize.is, c.frame_end.ensures)

pub returns-in-ListSize : goal.returns-in-ListSize
unfolding record_head
returns-in-ListSize c = simp (← c.has_room.ensures.is, c.if-has_room.true, ← (c.little_4.ensures.0.there (c.has_room.ensures.fits c.if-has_room.true)), ← c.frame_size.ensures, c.in-ListSize.is, c.fault_at.ensures)

pub returns-else-has_room : goal.returns-else-has_room
unfolding record_head
returns-else-has_room c = simp (← c.has_room.ensures.is, c.if-has_room.false, c.fault_at-else-has_room.ensures)
