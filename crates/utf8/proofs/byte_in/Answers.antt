use mathlib.Core.Path.{sym, ◌∙◌}
use borrow.Author.Tests.{le-leb, lt-leb}
use Rattle.utf8.proofs.Places.{byte_there, byte_missing}
use Rattle.utf8.proofs.byte_in.Goals as goal

pub returns-then-least-b : goal.returns-then-least-b
returns-then-least-b c = sym (byte_there _ _ _ c.if-at-s.true ∙ rw (le-leb _ _ c.if-least-b.true))

pub returns-then-at-s : goal.returns-then-at-s
returns-then-at-s c = sym (byte_there _ _ _ c.if-at-s.true ∙ rw (lt-leb _ _ c.if-least-b.false))

pub returns : goal.returns
returns c = sym (byte_missing _ _ _ c.if-at-s.false)
