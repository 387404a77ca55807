-- `listing_lines::store::store_spaces` meets its contract. Assumes nothing.
use Prim.Native.Nat.{ℕ, ◌+◌}
use mathlib.Core.Path.{◌≡◌, sym, ◌∙◌}
use native.Mathlib.Omega.{arith}
use lib.ListN.{length, replicate, length-replicate}
use borrow.Author.Tests.{leb-false}
use borrow.Author.Rules.{rules}
use Rattle.stores.proofs.Storing.{stored_nothing, stored_part}
use Rattle.listing_lines.proofs.store.store_spaces.Goals as goal

pub returns-then-has_room : goal.returns-then-has_room
returns-then-has_room c =
    let room = c.has_room.ensures.fits c.if-has_room.true in
    let size = length-replicate {A = ℕ} c.args.count 32 in
    let spaces : c.fill.new.self ≡ replicate c.args.count 32 = search rules in
    stored_part spaces (sym size) room

pub returns : goal.returns
returns c = let size = length-replicate {A = ℕ} c.args.count 32 in
    let short = leb-false (c.args.at + c.args.count) (length c.args.out.now) (sym c.has_room.ensures.is ∙ c.if-has_room.false) in
    stored_nothing (omega arith)
