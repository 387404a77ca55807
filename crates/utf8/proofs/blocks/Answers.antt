use Prim.Native.Nat.{◌+◌, ◌≤◌}
use native.Mathlib.Omega.{arith}
use lib.ListN.{length}
use mathlib.Core.Path.{sym, ◌∙◌}
use Rattle.utf8.proofs.Reading.{read_stops}
use Rattle.utf8.proofs.BlockLaws.{blocks_start, blocks_turn, blocks_refusal, blocks_end}
use Rattle.utf8.proofs.blocks.Goals as goal

pub loop-at-init : goal.loop-at-init
loop-at-init c = blocks_start _ _ _ c.requires.0

pub block-requires : goal.block-requires
block-requires c = omega (arith, c.loop-at.invariant.inside)

pub loop-at-smaller : goal.loop-at-smaller
loop-at-smaller c = let stop = read_stops _ _ _ _ (sym c.block.ensures ∙ c.in_ok-at.was) c.loop-at.invariant.inside in
    omega arith

pub loop-at-preserved : goal.loop-at-preserved
loop-at-preserved c = let whole : c.loop-at.at + c.args.size ≤ length c.args.s.now = omega (arith, c.loop-at.invariant.inside) in
    blocks_turn _ _ c.loop-at.invariant c.requires.1 (whole) c.block.ensures c.in_ok-at.was

pub returns-in_err-at : goal.returns-in_err-at
returns-in_err-at c = let whole : c.loop-at.at + c.args.size ≤ length c.args.s.now = omega (arith, c.loop-at.invariant.inside) in
    c.from_residual.ensures ∙ sym (blocks_refusal _ _ c.loop-at.invariant c.requires.1 (whole) c.block.ensures c.in_err-at.was)

pub returns : goal.returns
returns c = sym (blocks_end _ _ c.loop-at.invariant (omega (arith, c.loop-at.invariant.inside)))
