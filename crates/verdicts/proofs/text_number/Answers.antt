use native.Mathlib.Omega.{arith}
use Prim.Native.Nat.{◌+◌}
use mathlib.Core.Path.{◌≡◌, sym, ap, ◌∙◌}
use mathlib.Core.Bool.{true, false}
use lib.ListN.{length, take, drop}
use borrow.Author.Tests.{le-leb, lt-leb}
use Rattle.utf8.specs.WellFormed.{well_formed}
use Rattle.writing.specs.Piece.{text}
use borrow.Author.Rules.{rules}
use Rattle.verdicts.proofs.text_number.Goals as goal

pub returns-then-room-place : goal.returns-then-room-place
unfolding text
returns-then-room-place c = let a = c.args in rw (lt-leb (a.string.place + a.string.len) (length a.strings.now) (omega arith))

pub returns-then-room-place-2 : goal.returns-then-room-place-2
unfolding text
returns-then-room-place-2 c = let a = c.args in rw (lt-leb (a.string.place + a.string.len) (length a.strings.now) (omega arith))

pub returns-then-well_formed : goal.returns-then-well_formed
unfolding text
returns-then-well_formed c = let a = c.args in
    let fine : well_formed (take a.string.len (drop a.string.place a.strings.now)) ≡ true = ap well_formed (sym c.characters.ensures) ∙ sym c.well_formed-2.ensures ∙ c.if-well_formed.true in
    rw (le-leb (a.string.place + a.string.len) (length a.strings.now) (omega arith), fine)

pub returns : goal.returns
unfolding text
returns c = let a = c.args in
    let bad : well_formed (take a.string.len (drop a.string.place a.strings.now)) ≡ false = ap well_formed (sym c.characters.ensures) ∙ sym c.well_formed-2.ensures ∙ c.if-well_formed.false in
    rw (le-leb (a.string.place + a.string.len) (length a.strings.now) (omega arith), bad)
