use Rattle.utf8.proofs.Ascii.{Joined}
use Rattle.utf8.proofs.is_ascii.Given as goal

abbrev pub invariant-loop-byte : goal.invariant-loop-byte
invariant-loop-byte l = Joined l.s l.all l.byte-index
