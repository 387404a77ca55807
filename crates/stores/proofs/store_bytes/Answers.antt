-- `stores::store_bytes` meets its contract. The invariant: so many bytes are copied. Assumes nothing.
use Prim.Native.Nat.{ℕ, ◌+◌}
use mathlib.Core.Path.{◌≡◌, refl, sym, subst, ◌∙◌}
use native.Mathlib.Omega.{arith}
use lib.ListN.{length}
use borrow.Author.Tests.{leb-false}
use Rattle.stores.specs.Stored.{Stored}
use Rattle.stores.proofs.Storing.{stored_nothing}
use Rattle.stores.proofs.Copying.{copy_none, copy_more, copy_all}
use Rattle.stores.proofs.store_bytes.Goals as goal

pub loop-i-init : goal.loop-i-init
loop-i-init c = copy_none _ _ _ (c.has_room.ensures.fits c.if-has_room.true)

pub loop-i-preserved : goal.loop-i-preserved
loop-i-preserved c = copy_more _ c.loop-i.invariant c.loop-i-test.true refl

pub returns-then-has_room : goal.returns-then-has_room
returns-then-has_room c =
    let all : c.loop-i.i ≡ length c.args.bytes.now = omega (arith, c.loop-i.invariant.most) in
    subst (λ (n : ℕ). Stored c.args.out.now c.args.at c.args.bytes.now c.loop-i.out (c.args.at + n)) all (copy_all c.loop-i.invariant (omega arith))

pub returns : goal.returns
returns c = stored_nothing (leb-false _ _ (sym c.has_room.ensures.is ∙ c.if-has_room.false))
