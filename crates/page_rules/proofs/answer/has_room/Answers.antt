-- `page_rules::answer::has_room` meets its contract. Assumes nothing.
use mathlib.Core.Path.{sym}
use native.Mathlib.Omega.{arith}
use borrow.Author.Tests.{lt-leb}
use Prim.Native.Nat.{◌+◌}
use Rattle.page_rules.proofs.Decoding.{room_there}
use Rattle.page_rules.proofs.answer.has_room.Goals as goal

pub returns-then-n-words : goal.returns-then-n-words
returns-then-n-words c = room_there c.args.words c.args.start c.args.n c.if-n-words.true

pub returns-else-n-words : goal.returns-else-n-words
returns-else-n-words c = sym (lt-leb (c.args.start + c.args.n) c.args.words (omega arith))
