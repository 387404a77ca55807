-- `listing_lines::room::line_room` meets its contract: the pieces that are taken off are the line's. Assumes nothing.
use Prim.Native.Nat.{ℕ, ◌+◌}
use mathlib.Core.Path.{◌∙◌, ◌≡◌, ap, sym}
use mathlib.Core.Bool.{Bool}
use native.Mathlib.Omega.{arith}
use lib.ListN.{length}
use Rattle.listing.specs.Lines.{dark_word}
use Rattle.listing_lines.proofs.LineLaws.{line_length}
use Rattle.listing_lines.proofs.RoomLaws.{taken_last, taken_past}
use Rattle.listing_lines.proofs.room.line_room.Goals as goal
use Rattle.listing_lines.proofs.room.line_room.Goals.{then-line, else-line}

pub returns-in_err-checked_sub : goal.returns-in_err-checked_sub
returns-in_err-checked_sub c =
    let whole = line_length c.args.envelope.now c.args.line in
    taken_past (omega (arith, c.in_err-checked_sub.ensures)) c.from_residual.ensures

pub returns-in_err-checked_sub-2 : goal.returns-in_err-checked_sub-2
returns-in_err-checked_sub-2 c =
    let whole = line_length c.args.envelope.now c.args.line in
    taken_past (omega (arith, c.in_ok-checked_sub.ensures, c.in_err-checked_sub-2.ensures)) c.from_residual-in_err-checked_sub-2.ensures

pub returns-in_err-checked_sub-3 : goal.returns-in_err-checked_sub-3
returns-in_err-checked_sub-3 c =
    let whole = line_length c.args.envelope.now c.args.line in
    let digits = ap length c.digits_of-digits.ensures.is in
    taken_past (omega (arith, c.in_ok-checked_sub.ensures, c.in_ok-checked_sub-2.ensures, c.in_err-checked_sub-3.ensures)) c.from_residual-in_err-checked_sub-3.ensures

pub returns-in_err-checked_sub-4 : goal.returns-in_err-checked_sub-4
returns-in_err-checked_sub-4 c =
    let whole = line_length c.args.envelope.now c.args.line in
    let digits = ap length c.digits_of-digits.ensures.is in
    let name = ap length c.text_of-characters.ensures in
    taken_past (omega (arith, c.in_ok-checked_sub.ensures, c.in_ok-checked_sub-2.ensures, c.in_ok-checked_sub-3.ensures, c.in_err-checked_sub-4.ensures)) c.from_residual-in_err-checked_sub-4.ensures

pub returns-in_err-checked_sub-5 : goal.returns-in_err-checked_sub-5
returns-in_err-checked_sub-5 c =
    let whole = line_length c.args.envelope.now c.args.line in
    let digits = ap length c.digits_of-digits.ensures.is in
    let name = ap length c.text_of-characters.ensures in
    let type = ap length c.text_of-type_characters.ensures in
    taken_past (omega (arith, c.in_ok-checked_sub.ensures, c.in_ok-checked_sub-2.ensures, c.in_ok-checked_sub-3.ensures, c.in_ok-checked_sub-4.ensures, c.in_err-checked_sub-5.ensures)) c.from_residual-in_err-checked_sub-5.ensures

pub returns : goal.returns
returns c =
    let whole = line_length c.args.envelope.now c.args.line in
    let digits = ap length c.digits_of-digits.ensures.is in
    let name = ap length c.text_of-characters.ensures in
    let type = ap length c.text_of-type_characters.ensures in
    let last : Bool → ℕ = λ b. length (dark_word b) + 3 in
    let end : c.if-line.end ≡ last c.args.line.dark = elim c.if-line.branch [ then-line w ↦ w.end-is ∙ ap last (sym w.if-line.true) | else-line w ↦ w.end-is ∙ ap last (sym w.if-line.false) ] in
    taken_last _ _ _ (omega (arith, c.in_ok-checked_sub.ensures, c.in_ok-checked_sub-2.ensures, c.in_ok-checked_sub-3.ensures, c.in_ok-checked_sub-4.ensures, c.in_ok-checked_sub-5.ensures)) c.checked_sub-6.ensures
