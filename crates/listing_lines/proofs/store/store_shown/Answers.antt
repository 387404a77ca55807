use Prim.Native.Nat.{◌+◌}
use mathlib.Core.Path.{◌≡◌, sym, ◌∙◌}
use native.Mathlib.Omega.{arith}
use lib.ListN.{length, length-map}
use borrow.Author.Tests.{leb-false}
use Rattle.listing.specs.Lines.{shown_byte}
use Rattle.stores.proofs.Storing.{stored_nothing}
use Rattle.stores.proofs.Copying.{copy_none, copy_more, copy_all}
use Rattle.listing_lines.proofs.LineLaws.{shown_at}
use Rattle.listing_lines.proofs.store.store_shown.Goals as goal

pub loop-i-init : goal.loop-i-init
loop-i-init c = let size = length-map c.args.bytes.now shown_byte in copy_none _ _ _ (omega (arith, c.has_room.ensures.fits c.if-has_room.true))

pub overflow_add-out : goal.overflow_add-out
overflow_add-out c = let size = length-map c.args.bytes.now shown_byte in omega (arith, c.loop-i.invariant.room)

pub bounds-out-at : goal.bounds-out-at
bounds-out-at c = let size = length-map c.args.bytes.now shown_byte in omega (arith, c.loop-i.invariant.room)

pub loop-i-preserved : goal.loop-i-preserved
loop-i-preserved c = let bytes = c.args.bytes.now in
    let size = length-map bytes shown_byte in
    copy_more _ c.loop-i.invariant (omega arith) (c.shown_byte.ensures ∙ sym (shown_at bytes c.loop-i.i c.loop-i-test.true))

pub overflow_add-result : goal.overflow_add-result
overflow_add-result c = let size = length-map c.args.bytes.now shown_byte in omega (arith, c.loop-i.invariant.room)

pub shape_of-out-then-has_room : goal.shape_of-out-then-has_room
shape_of-out-then-has_room c = c.loop-i.invariant.long

pub returns-then-has_room : goal.returns-then-has_room
returns-then-has_room c = let size = length-map c.args.bytes.now shown_byte in
    let all : c.loop-i.i ≡ length c.args.bytes.now = omega arith in
    rw all at (copy_all c.loop-i.invariant (omega arith))

pub returns : goal.returns
returns c = let size = length-map c.args.bytes.now shown_byte in
    let short = leb-false (c.args.at + length c.args.bytes.now) (length c.args.out.now) (sym c.has_room.ensures.is ∙ c.if-has_room.false) in
    stored_nothing (omega arith)
