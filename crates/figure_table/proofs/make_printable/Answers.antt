use native.Mathlib.Omega.{arith}
use Rattle.figure_table.proofs.ShownLaws.{showing_none, showing_long, showing_more, showing_all}
use Rattle.figure_table.proofs.make_printable.Goals as goal

pub loop-byte-init : goal.loop-byte-init
loop-byte-init c = showing_none _

pub loop-byte-preserved : goal.loop-byte-preserved
loop-byte-preserved c = let long = showing_long c.loop-byte.invariant in showing_more c.loop-byte.invariant (omega arith) c.shown_byte.ensures

pub returns : goal.returns
returns c = let long = showing_long c.loop-byte.invariant in showing_all c.loop-byte.invariant (omega arith)
