use Prim.Native.Nat.{◌+◌, ◌-◌, ◌≤◌}
use mathlib.Core.Path.{◌≡◌, refl, sym, ap, ◌∙◌}
use native.Mathlib.Omega.{arith}
use borrow.Author.Rules.{rules}
use lib.ListN.{length}
use Rattle.header.specs.Tables.{record_at}
use Rattle.header_scan.proofs.PlaceLaws.{place_stays, record_next}
use Rattle.header_scan.proofs.chain.record_at.Goals as goal

pub loop-done-preserved : goal.loop-done-preserved
loop-done-preserved c = (c.loop-done.invariant.0 ∙ record_next c.args.s.now c.loop-done.at (c.args.k - c.loop-done.done) (omega (arith, c.loop-done-test.true)) c.little_4.ensures.0.is ∙ ap (record_at c.args.s.now _) (omega arith), place_stays c.args.s.now c.loop-done.at c.little_4.result c.little_4.ensures.0.is c.little_4.ensures.1 c.loop-done.invariant.1)

pub returns : goal.returns
unfolding record_at
returns c = let z : c.args.k - c.loop-done.done ≡ 0 = omega arith in sym (c.loop-done.invariant.0 ∙ ap (record_at c.args.s.now c.loop-done.at) z)
