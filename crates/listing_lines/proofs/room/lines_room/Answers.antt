use Prim.Native.Nat.{ℕ, ◌+◌, ◌-◌, ◌/◌}
use mathlib.Core.Path.{◌≡◌, sym, ap, ◌∙◌}
use native.Mathlib.Omega.{arith}
use borrow.Author.Tests.{leb-false}
use lib.ListN.{length, length-append}
use Rattle.listing_lines.specs.Line.{line_bytes}
use Rattle.listing_lines.proofs.LineLaws.{first_lines, no_lines, lines_next, lines_grow}
use Rattle.listing_lines.proofs.RoomLaws.{taken_none, taken_then, taken_as, taken_full, taken_past}
use Rattle.listing_lines.proofs.room.lines_room.Goals as goal

pub loop-i-init : goal.loop-i-init
loop-i-init c = let a = c.args in
    taken_as (ap length (no_lines a.envelope.now a.fields.now a.marks.now a.entries.now)) (taken_none a.len)

pub loop-i-preserved : goal.loop-i-preserved
loop-i-preserved c = let a = c.args in
    let l = c.loop-i in
    let next = ap length (lines_next a.envelope.now a.fields.now a.marks.now a.entries.now l.i c.line_of.ensures) in
    let both = length-append (first_lines a.envelope.now a.fields.now a.marks.now a.entries.now l.i) (line_bytes a.envelope.now c.line_of.result) in
    taken_as (sym both ∙ next) (taken_then l.invariant (rw c.in_ok-room.was at c.line_room.ensures))

-- the lines up to this one are too long, and so are all
pub returns-in_err-room : goal.returns-in_err-room
returns-in_err-room c = let a = c.args in
    let l = c.loop-i in
    let next = ap length (lines_next a.envelope.now a.fields.now a.marks.now a.entries.now l.i c.line_of.ensures) in
    let both = length-append (first_lines a.envelope.now a.fields.now a.marks.now a.entries.now l.i) (line_bytes a.envelope.now c.line_of.result) in
    let n = length a.entries.now / 2 in
    let rest = lines_grow a.envelope.now a.fields.now a.marks.now a.entries.now (l.i + 1) (n - (l.i + 1)) n (omega arith) in
    let long = leb-false _ _ (taken_full (taken_then l.invariant (rw c.in_err-room.was at c.line_room.ensures))) in
    taken_past (omega arith) c.from_residual.ensures

pub returns : goal.returns
returns c = let a = c.args in
    let all : c.loop-i.i ≡ length a.entries.now / 2 = omega arith in
    taken_as (ap (λ (i : ℕ). length (first_lines a.envelope.now a.fields.now a.marks.now a.entries.now i)) all) c.loop-i.invariant
